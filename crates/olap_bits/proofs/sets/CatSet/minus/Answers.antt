-- All words are joined.
use Rattle.std.proofs.Common.{refl, rules}
use Rattle.olap_bits.proofs.JoiningLemmas.{joined_all, minus_of}
use Rattle.olap_bits.proofs.sets.CatSet.minus.Goals as goal

pub returns : goal.returns
returns g c = minus_of _ _ _ (λ j. search rules) (joined_all c.words.invariant (search rules) (search rules) refl)
