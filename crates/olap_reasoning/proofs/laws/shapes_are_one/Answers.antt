use Rattle.olap_reasoning.proofs.ShapeLemmas.{shapes_are_one}
use Rattle.olap_reasoning.proofs.laws.shapes_are_one.Goals as goal

pub returns : goal.returns
returns c = shapes_are_one
