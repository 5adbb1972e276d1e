-- A printed text reads back as its records.
use Rattle.std.proofs.Common.{◌≡◌, ◌≢◌, ◌<◌, ◌+◌, ◌==◌, ◌++◌, ◌∷◌, ◌∙◌, inl, inr, false, ℕ, suc, List, [], length, map, slice_index, refl, sym, ap, arith, append_assoc}
use Rattle.std.{proofs.lemmas.Bool.Decides.eqb_tells, proofs.lemmas.List.append-nil, specs.Prelude.All}
use Rattle.csv.{proofs.RoundTrip.read-write, specs.Reading.{default_config, records_from, strip_bom}}
use Rattle.csv.specs.Writing.{read_back}
use Rattle.olap_records.proofs.Fuel.{none-at-end, records-more}
use Rattle.olap_records.specs.Texts.{TextReadsBack, text_of_row, text_of_rows}
use Rattle.csv.specs.declared.parser.State.TheVariants as st

-- one record more at the end of a text
pub texts-push : (xs : List (List (List ℕ))) (r : List (List ℕ))
    → text_of_rows (xs ++ r ∷ []) ≡ text_of_rows xs ++ text_of_row r
texts-push [] r = append-nil (text_of_row r)
texts-push (x ∷ xs) r =
    ap (λ (t : List ℕ). text_of_row x ++ t) (texts-push xs r)
    ∙ sym (append_assoc (text_of_row x) (text_of_rows xs) (text_of_row r))

-- the records of a text of records, one after the other
pub texts-read : (rows : List (List (List ℕ)))
    → records_from default_config (length (text_of_rows rows) + 1) st.StartRecord (text_of_rows rows) ≡ map read_back
    rows
texts-read [] = none-at-end default_config 1
texts-read (r ∷ rs) =
    records-more default_config st.StartRecord (text_of_row r ++ text_of_rows rs)
    (read_back r, st.StartRecord, text_of_rows rs)
    (read-write r (text_of_rows rs))
    ∙ ap (λ (t : List (List (List ℕ))). read_back r ∷ t) (texts-read rs)

-- a text with another first byte than that of a byte order mark stays as it is
unmarked : (text : List ℕ) → (slice_index text 0 == 239) ≡ false → strip_bom text ≡ text
unfolding strip_bom
unmarked [] e = refl
unmarked (c ∷ []) e = refl
unmarked (c ∷ a ∷ []) e = refl
unmarked (c ∷ a ∷ b ∷ rest) e = rw e refl

-- the same, of a text that shows its first byte
pub no-mark : (c : ℕ) (rest : List ℕ) → (c == 239) ≡ false → strip_bom (c ∷ rest) ≡ c ∷ rest
no-mark c rest e = unmarked (c ∷ rest) e

-- a record that has a field stays as it is
stays : (rows : List (List (List ℕ))) → All (λ r. 0 < length r) rows → map read_back rows ≡ rows
stays [] h = refl
stays ([] ∷ rows) h = let l = h 0 [] (omega arith) in absurd (omega arith)
stays ((x ∷ r) ∷ rows) h =
    ap (λ (t : List (List (List ℕ))). (x ∷ r) ∷ t) (stays rows (λ i d l. h (suc i) d (omega arith)))

-- what is printed reads back
pub text-back : TextReadsBack
text-back rows full first =
    let b : (slice_index (text_of_rows rows) 0 == 239) ≡ false = other (slice_index (text_of_rows rows) 0) first in
    ap (λ (t : List ℕ). records_from default_config (length t + 1) st.StartRecord t) (unmarked (text_of_rows rows) b)
    ∙ texts-read rows ∙ stays rows full
  where
    other : (n : ℕ) → n ≢ 239 → (n == 239) ≡ false
    other n h = elim (eqb_tells n 239) [ inl t ↦ absurd (h t.1) | inr f ↦ f.0 ]
