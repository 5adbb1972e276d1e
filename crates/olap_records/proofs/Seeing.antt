-- A loop over records (or over pieces of a field) that looks for the first fault.
--     see-none    at the start none is seen
--     see-more    one record more passes
--     see-fault   a record has a fault, which is the first
--     see-all     no record is left
use Rattle.std.proofs.Common.{◌≡◌, ◌++◌, ◌∷◌, ◌∙◌, List, [], length, Option, Some, None, refl, sym, ap, append_assoc}
use Rattle.std.proofs.lemmas.List.{append-nil}
use Rattle.olap_records.specs.Faults.{first_fault}

module _ {R K : Type 0} (fault : List R → R → Option K) where
  -- of these records those seen have no fault, and those are left
  pub record HasSeen (all seen left : List R) : Type 0 where
    pub parts : all ≡ seen ++ left
    pub faults : first_fault fault [] all ≡ first_fault fault seen left

  pub see-none : (all : List R) → HasSeen all [] all
  see-none all = record { parts = refl; faults = refl }

  pub see-more : (all seen left after : List R) (r : R) → HasSeen all seen left → left ≡ r ∷ after → fault seen r ≡ None
      → HasSeen all (seen ++ r ∷ []) after
  see-more all seen left after r h el ef =
      let one : first_fault fault seen left ≡ first_fault fault (seen ++ r ∷ []) after = rw (el, ef) refl in
      record {
        parts = h.parts ∙ ap (λ (t : List R). seen ++ t) el ∙ sym (append_assoc seen (r ∷ []) after);
        faults = h.faults ∙ one;
      }

  pub see-fault : (all seen left after : List R) (r : R) (k : K) → HasSeen all seen left → left ≡ r ∷ after
      → fault seen r ≡ Some k → first_fault fault [] all ≡ Some (length seen, k)
  see-fault all seen left after r k h el ef =
      let one : first_fault fault seen left ≡ Some (length seen, k) = rw (el, ef) refl in
      h.faults ∙ one

  pub see-all : (all seen left : List R) → HasSeen all seen left → left ≡ []
      → (all ≡ seen) × (first_fault fault [] all ≡ None)
  see-all all seen left h el =
      (h.parts ∙ ap (λ (t : List R). seen ++ t) el ∙ append-nil seen, h.faults ∙ ap (first_fault fault seen) el)
