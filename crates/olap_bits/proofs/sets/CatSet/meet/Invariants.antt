-- The words so far are joined, and the others are the set's own.
use Rattle.std.specs.Prelude.{bit_and}
use Rattle.olap_bits.proofs.JoiningLemmas.{IsJoined}
use Rattle.olap_bits.proofs.sets.CatSet.meet.Given as goal

abbrev pub invariant-words : goal.invariant-words
invariant-words g l = IsJoined bit_and l.fn.self.words l.other.words l.words l.k
