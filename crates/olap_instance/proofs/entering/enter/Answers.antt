use Rattle.std.proofs.{Common.arith, lemmas.Grind.common_steps}
use Rattle.olap_instance.proofs.EnteringLemmas.{absent-more, count-entered, ids-entered, same-member}
use Rattle.olap_instance.proofs.entering.enter.Goals as goal

pub returns-in_ok-add-in-Ok-clause-member : goal.returns-in_ok-add-in-Ok-clause-member
returns-in_ok-add-in-Ok-clause-member c = grind (arith, common_steps, ids-entered, count-entered, same-member)

pub returns-in_ok-add-in-Ok-clause-others : goal.returns-in_ok-add-in-Ok-clause-others
returns-in_ok-add-in-Ok-clause-others c = grind (arith, absent-more)

pub returns-in-Err-clause-member : goal.returns-in-Err-clause-member
returns-in-Err-clause-member c = grind (arith, count-entered, ids-entered)
