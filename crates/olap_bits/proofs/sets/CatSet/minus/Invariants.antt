-- The words so far are joined, and the others are the set's own.
use Rattle.std.specs.{Int.{bit_not, w64}, Prelude.bit_and}
use Rattle.olap_bits.proofs.JoiningLemmas.{IsJoined}
use Rattle.olap_bits.proofs.sets.CatSet.minus.Given as goal

abbrev pub invariant-words : goal.invariant-words
invariant-words g l = IsJoined (λ a b. bit_and a (bit_not w64 b)) l.fn.self.words l.other.words l.words l.k
