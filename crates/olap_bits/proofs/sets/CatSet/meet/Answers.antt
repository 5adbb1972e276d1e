-- All words are joined.
use Rattle.std.proofs.Common.{refl, rules}
use Rattle.olap_bits.proofs.JoiningLemmas.{joined_all, meet_of}
use Rattle.olap_bits.proofs.sets.CatSet.meet.Goals as goal

pub returns : goal.returns
returns g c = meet_of _ _ _ (joined_all c.words.invariant (search rules) (search rules) refl)
