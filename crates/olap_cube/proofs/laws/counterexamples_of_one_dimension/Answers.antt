use Rattle.olap_cube.proofs.OneDimensionLemmas.{counterexamples_of_one_dimension}
use Rattle.olap_cube.proofs.laws.counterexamples_of_one_dimension.Goals as goal

pub returns : goal.returns
returns c = counterexamples_of_one_dimension
