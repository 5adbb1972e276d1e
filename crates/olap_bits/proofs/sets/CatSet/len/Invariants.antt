-- The numbers of the words so far are counted.
use Rattle.std.{proofs.Common.{◌≡◌, ◌*◌}, specs.FinSet.len}
use Rattle.olap_bits.specs.CatSet.{numbers_below}
use Rattle.olap_bits.proofs.sets.CatSet.len.Given as goal

abbrev pub invariant-words : goal.invariant-words
invariant-words g l = l.count ≡ len (numbers_below l.self.words (64 * l.k))
