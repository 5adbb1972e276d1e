-- No number of the words so far is in the set alone.
use Rattle.std.proofs.Common.{ℕ, ◌<◌}
use Rattle.olap_bits.proofs.SubsetLemmas.{HasNoneLeft}
use Rattle.olap_bits.proofs.sets.CatSet.is_subset.Given as goal

abbrev pub invariant-words : goal.invariant-words
invariant-words g l = (j : ℕ) → j < l.k → HasNoneLeft l.self.words l.other.words j
