-- More words than there may be are no command.
use Rattle.std.proofs.Common.{◌≡◌, ◌<◌, ℕ, true, List, [], ◌∷◌, length, refl, arith, nat_lt}
use Rattle.std.proofs.lemmas.Bool.Decides.{nat_tests}
use Rattle.olap_base.specs.Limits.{most_words}
use Rattle.olap_run.specs.Commands.{order_of, usage}

-- more words than there may be have the order `usage`
pub too_many : (words : List (List ℕ)) → most_words < length words → order_of words ≡ usage
too_many [] h = refl
too_many (name ∷ words) h =
    let b : nat_lt most_words (length (name ∷ words)) ≡ true = grind (arith, nat_tests) in rw b refl
