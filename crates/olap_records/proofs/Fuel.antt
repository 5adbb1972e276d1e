-- A text of n bytes has at most n + 1 records, so more turns than that change nothing.
use Rattle.std.proofs.Common.{◌≡◌, ◌<◌, ◌+◌, ◌⊎◌, ℕ, zero, suc, List, [], ◌∷◌, length, Option, Some, None, refl, sym, ap, inl, inr, arith, add-one, ◌∙◌}
use Rattle.std.proofs.lemmas.Bool.{cases_Bool}
use Rattle.csv.specs.Machine.{Read, next_record, step, ends_at_end, is_end, fields_after, field_after}
use Rattle.csv.specs.{Reading.{records_from, records_next}, declared.parser.Config.Config, declared.parser.State.State}
use Rattle.olap_base.proofs.GeneralLemmas.{some_same}
use Rattle.csv.specs.declared.parser.State.TheVariants as st

-- a read leaves fewer bytes, or stands at the end of the text
abbrev Leaves : List ℕ → Read → Type 0
Leaves xs q = (length q.2 < length xs) ⊎ ((q.1 ≡ st.StartRecord) × (q.2 ≡ []))

-- what holds of the rest of a text holds of the text
leaves-front : (c : ℕ) (rest : List ℕ) (q : Read) → Leaves rest q → Leaves (c ∷ rest) q
leaves-front c rest q (inl h) = inl (omega arith)
leaves-front c rest q (inr h) = inr h

-- each read leaves less
leaves : (cfg : Config) (s : State) (fields : List (List ℕ)) (field xs : List ℕ) (q : Read)
    → next_record cfg s fields field xs ≡ Some q → Leaves xs q
unfolding next_record
leaves cfg s fields field [] q e = elim (cases_Bool (ends_at_end s)) [
  | inl t ↦ let g = some_same _ _ (rw t at e) in inr (sym (ap (λ (p : Read). p.1) g), sym (ap (λ (p : Read). p.2) g))
  | inr f ↦ cc (rw f at e)
]
leaves cfg s fields field (c ∷ rest) q e = elim (cases_Bool (is_end (step cfg s c).1)) [
  | inl t ↦ let g = some_same _ _ (rw t at e) in let len = ap (λ (p : Read). length p.2) g in inl (omega arith)
  | inr f ↦ leaves-front c rest q
      (leaves cfg (step cfg s c).0 (fields_after (step cfg s c).1 fields field) (field_after (step cfg s c).1 c field)
      rest q (rw f at e))
]

-- at the end of a text there are no records, whatever the turns
pub none-at-end : (cfg : Config) (n : ℕ) → records_from cfg n st.StartRecord [] ≡ []
unfolding records_from next_record
none-at-end cfg zero = refl
none-at-end cfg (suc n) = refl

-- lists with one head are equal if what follows is
the-cons : {A : Type 0} (x : A) (xs ys : List A) → xs ≡ ys → x ∷ xs ≡ x ∷ ys
the-cons x xs ys e = cc

-- any two numbers of turns above the number of bytes give the same records
pub enough : (cfg : Config) (n m : ℕ) (s : State) (xs : List ℕ) → length xs < n → length xs < m
    → records_from cfg n s xs ≡ records_from cfg m s xs
unfolding records_from
enough cfg zero m s xs hn hm = absurd (omega arith)
enough cfg (suc n) zero s xs hn hm = absurd (omega arith)
enough cfg (suc n) (suc m) s xs hn hm = by (next_record cfg s [] [] xs) refl (λ (q : Read). enough cfg n m q.1 q.2)
  where
    by : (o : Option Read) → next_record cfg s [] [] xs ≡ o
        → ((q : Read) → length q.2 < n → length q.2 < m → records_from cfg n q.1 q.2 ≡ records_from cfg m q.1 q.2)
        → records_next (records_from cfg n) o ≡ records_next (records_from cfg m) o
    by None e again = refl
    by (Some q) e again = elim (leaves cfg s [] [] xs q e) [
      | inl h ↦ the-cons q.0 _ _ (again q (omega arith) (omega arith))
      | inr h ↦ rw (h.0, h.1) (the-cons q.0 _ _ (none-at-end cfg n ∙ sym (none-at-end cfg m)))
    ]

-- a record that is there is the first of the records from here on
pub records-more : (cfg : Config) (s : State) (xs : List ℕ) (q : Read) → next_record cfg s [] [] xs ≡ Some q
    → records_from cfg (length xs + 1) s xs ≡ q.0 ∷ records_from cfg (length q.2 + 1) q.1 q.2
unfolding records_from
records-more cfg s xs q e = elim (leaves cfg s [] [] xs q e) [
  | inl h ↦ rw (add-one (length xs), e)
      (the-cons q.0 _ _ (enough cfg (length xs) (length q.2 + 1) q.1 q.2 h (omega arith)))
  | inr h ↦ rw (add-one (length xs), e, h.0, h.1)
      (the-cons q.0 _ _ (none-at-end cfg (length xs) ∙ sym (none-at-end cfg 1)))
]

-- if there is none, there are no records
pub records-none : (cfg : Config) (s : State) (xs : List ℕ) → next_record cfg s [] [] xs ≡ None
    → records_from cfg (length xs + 1) s xs ≡ []
unfolding records_from
records-none cfg s xs e = rw (add-one (length xs), e) refl
