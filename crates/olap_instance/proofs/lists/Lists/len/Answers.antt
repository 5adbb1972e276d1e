use Rattle.std.proofs.Common.{arith}
use Rattle.olap_instance.proofs.ListsLemmas.{count-lists}
use Rattle.olap_instance.proofs.lists.Lists.len.Goals as goal

pub returns-clause-count : goal.returns-clause-count
returns-clause-count g c = grind (arith, count-lists)

pub returns-clause-few : goal.returns-clause-few
returns-clause-few g c = grind (arith, count-lists)
