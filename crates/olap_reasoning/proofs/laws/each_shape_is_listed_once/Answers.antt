use Rattle.olap_reasoning.proofs.ShapeLemmas.{each_shape_is_listed_once}
use Rattle.olap_reasoning.proofs.laws.each_shape_is_listed_once.Goals as goal

pub returns : goal.returns
returns c = each_shape_is_listed_once
