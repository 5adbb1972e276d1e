-- What tells the program's version is judged along the order of the words.
use Rattle.std.proofs.Common.{◌≡◌, ◌≤◌, ℕ, List, ◌∷◌, Some, Result, length, nat_lt, false, arith, subst, sym, refl}
use Rattle.std.proofs.lemmas.Bool.Decides.{nat_tests}
use Rattle.olap_base.specs.Limits.{most_words}
use Rattle.olap_outside.specs.declared.outside.Library.{Ghosts as Library}
use Rattle.olap_order.{proofs.Stepping.answered, specs.Judged.{Judged, Replies}, specs.Order.Order}
use Rattle.olap_order.specs.declared.replies.{Reply.Reply, Stop.Stop}
use Rattle.olap_run.specs.{Commands.{order_of, version_told}, Questions.{IsAnswer, Question}}

-- where the version is told, the order of the words is what is told
order_told : (name : List ℕ) (rest : List (List ℕ)) (order : Order Question) → length (name ∷ rest) ≤ most_words
    → version_told name rest ≡ Some order → order_of (name ∷ rest) ≡ order
order_told name rest order few told =
    let b : nat_lt most_words (length (name ∷ rest)) ≡ false = grind (arith, nat_tests) in rw b (rw told refl)

-- so a reply to that is judged along the order of the words
pub told_judged : {D : Type 0} {L : Library D} {old : D} (words : List (List ℕ)) (name : List ℕ)
    (rest : List (List ℕ)) (order : Order Question) (result : Result Reply Stop) → words ≡ name ∷ rest
    → length words ≤ most_words → version_told name rest ≡ Some order → Replies IsAnswer order result
    → Judged IsAnswer L old old (order_of words) result
told_judged {L = L} {old = old} words name rest order result is few told replies =
    subst (λ ws. Judged IsAnswer L old old (order_of ws) result) (sym is)
    (subst (λ o. Judged IsAnswer L old old o result)
    (sym (order_told name rest order (subst (λ ws. length ws ≤ most_words) is few) told)) (answered result replies))
