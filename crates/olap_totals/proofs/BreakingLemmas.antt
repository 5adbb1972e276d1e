-- What is told of the members at which totals differ.
use Rattle.std.proofs.Common.{◌≡◌, ℕ, List, [], ◌∷◌, Ok, cond, length, map, true, false, sym, subst, arith}
use Rattle.std.{proofs.lemmas.Bool.eqb-true, proofs.lemmas.Bool.Decides.nat_tests, specs.Prelude.◌==◌}
use Rattle.olap_base.specs.Instance.{Instance}
use Rattle.olap_breaks.specs.{Breaks.{Break, breaks_text}, Seen.break_seen}
use Rattle.olap_order.specs.{Judged.{IsVerdict, Replies}, Order.Told, declared.replies.Reply.Reply}
use Rattle.olap_order.specs.declared.status.Status.{Status, TheVariants.{No, Yes}}
use Rattle.olap_totals.specs.Under.{breaks_status}
use Rattle.olap_breaks.specs.declared.finding.Break as code

-- what is told is told, where it is a yes or a no
told_as : {Q : Type 0} {answers : Q → Status → List ℕ → Type 0} (st : Status) (text : List ℕ) (reply : Reply)
    → reply.status ≡ st → IsVerdict st → reply.bytes.items ≡ text → Replies answers (Told st text) (Ok reply)
told_as st text reply status verdict bytes = record {
  right = λ files. (status, bytes);
  verdict = subst IsVerdict (sym status) verdict;
  unread = λ e. absurd (cc);
}

-- none are found
pub told_none : {Q : Type 0} {answers : Q → Status → List ℕ → Type 0} (i : Instance) (found : List code.Break)
    (bs : List Break) (reply : Reply) → map break_seen found ≡ bs → (length found == 0) ≡ true → reply.status ≡ Yes
    → reply.bytes.items ≡ breaks_text i (map break_seen found)
    → Replies answers (Told (breaks_status bs) (breaks_text i bs)) (Ok reply)
told_none {Q} {answers} i [] bs reply e n status bytes = subst
    (λ ds. Replies answers (Told (breaks_status ds) (breaks_text i ds)) (Ok reply)) e
    (told_as Yes (breaks_text i []) reply status tt bytes)
told_none {Q} {answers} i (b ∷ found) bs reply e n status bytes =
    let z : length (b ∷ found) ≡ 0 = eqb-true (length (b ∷ found)) 0 n in absurd (omega arith)

-- if there is a first, there are some
isnt_none : (b : Break) (bs : List Break) → (length (b ∷ bs) == 0) ≡ false
isnt_none b bs = grind (arith, nat_tests)

-- some are
pub told_some : {Q : Type 0} {answers : Q → Status → List ℕ → Type 0} (i : Instance) (found : List code.Break)
    (bs : List Break) (reply : Reply) → map break_seen found ≡ bs → (length found == 0) ≡ false → reply.status ≡ No
    → reply.bytes.items ≡ breaks_text i (map break_seen found)
    → Replies answers (Told (breaks_status bs) (breaks_text i bs)) (Ok reply)
told_some {Q} {answers} i [] bs reply e n status bytes = absurd (cc)
told_some {Q} {answers} i (b ∷ found) bs reply e n status bytes =
    let ds = map break_seen (b ∷ found) in
    subst (λ ds. Replies answers (Told (breaks_status ds) (breaks_text i ds)) (Ok reply)) e
    (subst (λ z. Replies answers (Told (cond z Yes No) (breaks_text i ds)) (Ok reply))
    (sym (isnt_none (break_seen b) (map break_seen found))) (told_as No (breaks_text i ds) reply status tt bytes))
