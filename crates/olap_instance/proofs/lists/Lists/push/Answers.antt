use Rattle.std.proofs.{Common.arith, lemmas.List.length-append}
use Rattle.olap_instance.proofs.ListsLemmas.{ascending-more, lists-more}
use Rattle.olap_instance.proofs.lists.Lists.push.Goals as goal

pub invariant_of-self-2 : goal.invariant_of-self-2
invariant_of-self-2 g c = grind (arith, length-append, ascending-more)

pub returns : goal.returns
returns g c = grind (arith, lists-more)
