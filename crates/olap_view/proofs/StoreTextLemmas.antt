-- The text of stored views: its records, printed one after the other and read back.
use Rattle.std.proofs.Common.{◌≡◌, ◌↔◌, ◌+◌, ◌<◌, ◌++◌, ◌∷◌, ◌∙◌, Bool, ℕ, zero, suc, List, [], length, map, take, flat_map, get_or, IsTrue, refl, sym, ap, arith, append_assoc}
use Rattle.std.proofs.lemmas.{Grind.common_steps, List.{flat_map_more, map-append, take_more}, List.Elements.All-map}
use Rattle.std.{proofs.lemmas.Slice.Eq.{bytes_eq-Decides, slice_eq-Decides}, specs.Prelude.All}
use Rattle.olap_base.specs.{Graph.Graph, Instance.Instance, Views.View}
use Rattle.olap_records.{proofs.ReadingBack.text-back, specs.Records.records_of, specs.Tables.begins_with}
use Rattle.olap_records.specs.Texts.{text_of_row, text_of_rows}
use Rattle.olap_view.{proofs.SeenLemmas.each_row, specs.Seen.{each_view_of, rows_of, view_of}}
use Rattle.olap_view.specs.StoreText.{beginning, header, records_of_one, records_of_store, store_text}
use Rattle.olap_view.specs.ViewText.{fields_in}
use Rattle.olap_view.specs.declared.views.Row as told_row
use Rattle.olap_view.specs.declared.views.View as told_view

-- the text of records after others
pub texts-append : (xs ys : List (List (List ℕ))) → text_of_rows (xs ++ ys) ≡ text_of_rows xs ++ text_of_rows ys
texts-append [] ys = refl
texts-append (x ∷ xs) ys = ap (λ (t : List ℕ). text_of_row x ++ t) (texts-append xs ys)
    ∙ sym (append_assoc (text_of_row x) (text_of_rows xs) (text_of_rows ys))

-- one view more
pub stored-view : (top : List (List ℕ)) (records : View ℕ ℕ → List (List (List ℕ))) (views : List told_view.View)
    (k : ℕ)
    (view : told_view.View) (shown : List (List (List ℕ))) (out new : List ℕ) → k < length views
    → view ≡ get_or views k view
    → out ≡ text_of_rows (top ∷ flat_map records (each_view_of (take k views)))
    → new ≡ out ++ text_of_rows shown → shown ≡ records (view_of view)
    → new ≡ text_of_rows (top ∷ flat_map records (each_view_of (take (k + 1) views)))
stored-view top records views k view shown out new l e eo en es =
    grind (arith, common_steps, flat_map, take_more, map-append, flat_map_more, texts-append)

-- ---- members

-- what holds of the members of rows holds of those of the structs that stand for them
pub told-members : (n : ℕ) (rows : List told_row.Row) → All (λ r. r.at < n) (rows_of rows)
    → All (λ r. r.member.0 < n) rows
told-members n rows a = λ k d h. each_row (λ r. r.at < n) rows k d h a

-- ---- read back

-- the record has a field
abbrev Full : List (List ℕ) → Type 0
Full r = 0 < length r

-- one record more has fields
full-cons : (top : List (List ℕ)) (rows : List (List (List ℕ))) → 0 < length top → All Full rows → All Full (top ∷ rows)
full-cons top rows h t zero d l = h
full-cons top rows h t (suc k) d l = t k d (omega arith)

-- so do the records of two lists
full-append : (xs ys : List (List (List ℕ))) → All Full xs → All Full ys → All Full (xs ++ ys)
full-append [] ys a b = b
full-append (x ∷ xs) ys a b = full-cons x (xs ++ ys) (a 0 x (omega arith))
    (full-append xs ys (λ k d l. a (suc k) d (omega arith)) b)

-- those of a view
full-one : (g : Graph) (i : Instance) (v : View ℕ ℕ) → All Full (records_of_one g i v)
full-one g i v = full-cons (beginning _) (map (λ r. _ ∷ fields_in i r) v.rows) (omega arith)
    (All-map Full (λ r. _ ∷ fields_in i r) v.rows (λ k d l. omega arith))

-- those of several views
full-each : (g : Graph) (i : Instance) (views : List (View ℕ ℕ)) → All Full (flat_map (records_of_one g i) views)
full-each g i [] = λ k d l. absurd (omega arith)
full-each g i (v ∷ views) = full-append (records_of_one g i v) (flat_map (records_of_one g i) views) (full-one g i v)
    (full-each g i views)

-- the text of stored views reads back
pub store-reads : (g : Graph) (i : Instance) (views : List (View ℕ ℕ))
    → records_of (store_text g i views) ≡ records_of_store g i views
store-reads g i views =
    text-back (records_of_store g i views)
    (full-cons header (flat_map (records_of_one g i) views) (omega arith) (full-each g i views))
    (λ e. absurd (omega arith))

-- ---- a record

-- whether the first record is the header
pub header-is : (row : List (List ℕ)) (after : List (List (List ℕ))) (b : Bool) → IsTrue b ↔ (row ≡ header)
    → b ≡ begins_with header (row ∷ after)
header-is row after b h = grind (arith, slice_eq-Decides, bytes_eq-Decides)
