use Rattle.olap_cube.proofs.DeterminedLemmas.{the_cube_counterexample_is_one}
use Rattle.olap_cube.proofs.laws.the_cube_counterexample_is_one.Goals as goal

pub returns : goal.returns
returns c = the_cube_counterexample_is_one
