use Rattle.std.proofs.Common.{arith}
use Rattle.olap_frozen.proofs.LeafLemmas.{chosen_is_leaf, chosen_is_shape, frozen_whole, met_part}
use Rattle.olap_frozen.proofs.frozen.named.Goals as goal

pub invariant_of-leaf : goal.invariant_of-leaf
invariant_of-leaf c = search (chosen_is_leaf, chosen_is_shape)

pub returns : goal.returns
returns c = grind (arith, frozen_whole, met_part)
