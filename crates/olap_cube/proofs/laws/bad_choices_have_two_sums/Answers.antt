use Rattle.olap_cube.proofs.SumLemmas.{bad_choices_have_two_sums}
use Rattle.olap_cube.proofs.laws.bad_choices_have_two_sums.Goals as goal

pub returns : goal.returns
returns c = bad_choices_have_two_sums
