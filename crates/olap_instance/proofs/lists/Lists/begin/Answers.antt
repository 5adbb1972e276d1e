use Rattle.std.proofs.Common.{arith}
use Rattle.olap_instance.proofs.ListsLemmas.{ascending-begin, lists-begin}
use Rattle.olap_instance.proofs.lists.Lists.begin.Goals as goal

pub invariant_of-self-2 : goal.invariant_of-self-2
invariant_of-self-2 g c = grind (arith, ascending-begin)

pub returns : goal.returns
returns g c = grind (arith, lists-begin)
