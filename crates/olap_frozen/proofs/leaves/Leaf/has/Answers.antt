use Rattle.std.proofs.Common.{arith}
use Rattle.olap_frozen.proofs.LeafLemmas.{lt_false, present_past}
use Rattle.olap_frozen.proofs.leaves.Leaf.has.Goals as goal

pub returns-else-c-categories-clause-present : goal.returns-else-c-categories-clause-present
returns-else-c-categories-clause-present c = grind (arith, lt_false, present_past)
