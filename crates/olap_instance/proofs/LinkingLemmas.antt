-- The parents of one field more, and of records whose fields they are.
--     linked-seen      one field more has no fault
--     linked-parents   its parents are the last list
--     linked-fault     its fault is the first
use Rattle.std.proofs.Common.{◌≡◌, ◌<◌, ◌+◌, ◌++◌, ◌∷◌, ◌∙◌, ℕ, suc, List, [], drop, get_or, length, map, take, Option, Ok, Err, Result, refl, sym, ap, arith}
use Rattle.std.proofs.Math.Seq.{drop-cons, drop-length}
use Rattle.std.{proofs.lemmas.List.{length-append, length-map, map-append, take_more}, specs.Prelude.MatchResult}
use Rattle.olap_base.specs.declared.{ids.MemberId.MemberId, refusals.Fault.Fault, refusals.Refusal.Refusal}
use Rattle.olap_records.{proofs.Seeing.{HasSeen, see-all, see-fault, see-more}, specs.Faults.{first_fault, or_after}}
use Rattle.olap_instance.specs.InstanceText.{parents_fault, parents_field, parents_read, pieces_fault, pieces_of}
use Rattle.olap_instance.specs.Passes.{AddsParents, AreBelow, FieldsPass, PassesSecond, field_fault, field_read, numbers_of, parents_in}
use Rattle.olap_instance.specs.{Refusals.{IsFaultCause, IsRecordCause}, declared.refusals.InstanceKind.InstanceKind}
use Rattle.olap_base.specs.declared.refusals.Refusal.TheVariants as refusal

-- one list more
pub parents-more : (parents now : List (List MemberId)) (more : List MemberId) (places : List ℕ)
    → now ≡ parents ++ more ∷ [] → numbers_of more ≡ places → parents_in now ≡ parents_in parents ++ places ∷ []
parents-more parents now more places en e =
    ap parents_in en ∙ map-append numbers_of parents (more ∷ []) ∙ ap (λ ps. parents_in parents ++ ps ∷ []) e

module _ (ids all : List (List ℕ)) (n : ℕ) (field : List ℕ) (l : n < length all) (is : field ≡ get_or all n []) where
  more : take (n + 1) all ≡ take n all ++ field ∷ []
  more = take_more all n [] l ∙ ap (λ (f : List ℕ). take n all ++ f ∷ []) (sym is)

  left : drop n all ≡ field ∷ drop (n + 1) all
  left =
      let s : n + 1 ≡ suc n = omega arith in
      rw s (drop-cons all n [] l ∙ ap (λ (f : List ℕ). f ∷ drop (suc n) all) (sym is))

  pub linked-seen : (old new : List (List MemberId)) → HasSeen (field_fault ids) all (take n all) (drop n all)
      → AddsParents ids (pieces_of field) old new
      → HasSeen (field_fault ids) all (take (n + 1) all) (drop (n + 1) all)
  linked-seen old new seen good =
      rw more (see-more (field_fault ids) all (take n all) (drop n all) (drop (n + 1) all) field seen left good.0)

  pub linked-parents : (old new : List (List MemberId)) → parents_in old ≡ map (field_read ids) (take n all)
      → AddsParents ids (pieces_of field) old new → parents_in new ≡ map (field_read ids) (take (n + 1) all)
  linked-parents old new e good =
      good.1 ∙ ap (λ (ps : List (List ℕ)). ps ++ field_read ids field ∷ []) e
      ∙ sym (map-append (field_read ids) (take n all) (field ∷ [])) ∙ ap (map (field_read ids)) (sym more)

  pub linked-fault : (parents : List (List MemberId)) (e : Refusal (Fault InstanceKind))
      → HasSeen (field_fault ids) all (take n all) (drop n all)
      → parents_in parents ≡ map (field_read ids) (take n all)
      → IsRecordCause (pieces_fault ids (pieces_of field)) (length parents) e
      → IsFaultCause (first_fault (field_fault ids) [] all) e
  linked-fault parents (refusal.Kind f) seen h c =
      let i = length-map parents numbers_of in
      let j = length-map (take n all) (field_read ids) in
      let k : length (parents_in parents) ≡ length (map (field_read ids) (take n all)) = ap length h in
      let a = c.0 in (
        length (take n all),
        omega arith,
        see-fault (field_fault ids) all (take n all) (drop n all) (drop (n + 1) all) field f.kind seen left c.1,
      )
  linked-fault parents (refusal.Memory m) seen h c = tt

-- after a field no stamp is as high as the next mark
pub linked-below : (ids : List (List ℕ)) (field : List ℕ) (stamps : List ℕ) (old new : List (List MemberId))
    → AddsParents ids (pieces_of field) old new → AreBelow stamps (length old + 2) → AreBelow stamps (length new + 1)
linked-below ids field stamps old new good b m l =
    let h = b m l in
    let n : length (parents_in new) ≡ length (parents_in old) + 1 =
    ap (λ (t : List (List ℕ)). length t) good.1 ∙ length-append (parents_in old) (field_read ids field ∷ []) in
    let i = length-map new numbers_of in
    let j = length-map old numbers_of in
    omega arith

-- where no field is left, all have passed
pub fields-pass : (ids all parents : List (List ℕ)) (n : ℕ) → n ≡ length all
    → HasSeen (field_fault ids) all (take n all) (drop n all) → parents ≡ map (field_read ids) (take n all)
    → FieldsPass ids all parents
fields-pass ids all parents n e seen h = grind (arith, drop-length, see-all)

-- ---- records

-- a fault after this many records is the same under other names
after-same : (n m : ℕ) (k : Option InstanceKind) (x y : Option (ℕ × InstanceKind)) → n ≡ m → x ≡ y
    → or_after n k x ≡ or_after m k y
after-same n m k x y e f = rw (e, f) refl

-- fields have the fault that their records have
faults-same : (ids earlier : List (List ℕ)) (before rows : List (List (List ℕ))) → length earlier ≡ length before
    → first_fault (field_fault ids) earlier (map parents_field rows) ≡ first_fault (parents_fault ids) before rows
faults-same ids earlier before [] e = refl
faults-same ids earlier before (r ∷ rows) e =
    let n = length-append earlier (parents_field r ∷ []) in
    let m = length-append before (r ∷ []) in
    after-same (length earlier) (length before) (pieces_fault ids (pieces_of (parents_field r))) _ _ e
    (faults-same ids (earlier ++ parents_field r ∷ []) (before ++ r ∷ []) rows (omega arith))

-- and tell the parents that these tell
reads-same : (ids : List (List ℕ)) (rows : List (List (List ℕ)))
    → map (field_read ids) (map parents_field rows) ≡ map (parents_read ids) rows
reads-same ids [] = refl
reads-same ids (r ∷ rows) = ap (λ (ps : List (List ℕ)). parents_read ids r ∷ ps) (reads-same ids rows)

-- what is found of the fields of records is found of the records
pub of-records : {T : Type 0} (ids : List (List ℕ)) (rows : List (List (List ℕ))) (fields : List (List ℕ))
    (parents : List (List ℕ)) → fields ≡ map parents_field rows → (result : Result T (Refusal (Fault InstanceKind)))
    → MatchResult result (λ _. FieldsPass ids fields parents)
    (λ e. IsFaultCause (first_fault (field_fault ids) [] fields) e)
    → MatchResult result (λ _. PassesSecond ids rows parents)
    (λ e. IsFaultCause (first_fault (parents_fault ids) [] rows) e)
of-records ids rows fields parents e (Ok v) h = grind (arith, faults-same, reads-same)
of-records ids rows fields parents e (Err x) h =
    let same : first_fault (field_fault ids) [] fields ≡ first_fault (parents_fault ids) [] rows =
    ap (first_fault (field_fault ids) []) e ∙ faults-same ids [] [] rows refl in
    rw (← same) h
