-- The roots are the only members of their categories, so the law of bad choices speaks of them.
use Rattle.olap_cube_summ.proofs.SumLemmas.{sums_differ}
use Rattle.olap_cube_summ.proofs.laws.cube_counterexample_sums_differ.Goals as goal

pub returns : goal.returns
returns c = sums_differ c.bad_choices_have_two_sums.ensures
