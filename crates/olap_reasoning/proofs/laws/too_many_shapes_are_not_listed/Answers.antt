use Rattle.olap_reasoning.proofs.ShapeLemmas.{too_many_shapes_are_not_listed}
use Rattle.olap_reasoning.proofs.laws.too_many_shapes_are_not_listed.Goals as goal

pub returns : goal.returns
returns c = too_many_shapes_are_not_listed
