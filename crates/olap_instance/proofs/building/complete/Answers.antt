use Rattle.std.proofs.{Common.arith, lemmas.Grind.common_steps, lemmas.List.take_all, lemmas.Result.on_ok_weaker}
use Rattle.olap_instance.proofs.{Among.linked-more, LinkingLemmas.parents-more}
use Rattle.olap_instance.proofs.building.complete.Goals as goal

pub lists-preserved : goal.lists-preserved
lists-preserved c = grind (arith, common_steps, linked-more)

pub returns-clause-parents : goal.returns-clause-parents
returns-clause-parents c = grind (arith, take_all, on_ok_weaker, parents-more)
