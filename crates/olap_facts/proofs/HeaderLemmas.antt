-- Whether the first record is the header.
use Rattle.std.proofs.Common.{◌≡◌, ◌↔◌, ◌∷◌, ◌∙◌, Bool, ℕ, List, IsTrue, ap, refl, sym}
use Rattle.std.{proofs.lemmas.Slice.Eq.{bytes_eq-Decides, slice_eq-Decides}, specs.Bool.one_answer}
use Rattle.std.specs.{Cmp.Lexicographic.pointwise, Str.bytes_eq}
use Rattle.olap_facts.specs.FactText.{header}
use Rattle.olap_records.specs.Tables.{begins_with}

-- the test of the first record is that for the header
header-is : (row : List (List ℕ)) (after : List (List (List ℕ))) (b : Bool) → IsTrue b ↔ (row ≡ header)
    → b ≡ begins_with header (row ∷ after)
header-is row after b h =
    let d : IsTrue (pointwise bytes_eq row header) ↔ (row ≡ header) =
    slice_eq-Decides bytes_eq-Decides row header (pointwise bytes_eq row header) refl in
    one_answer b (pointwise bytes_eq row header) h d

-- the test of the record that is read first
pub header-found : (left : List (List (List ℕ))) (row : List (List ℕ)) (after : List (List (List ℕ)))
    → left ≡ row ∷ after → (b : Bool) → IsTrue b ↔ (row ≡ header) → b ≡ begins_with header left
header-found left row after e b h = header-is row after b h ∙ ap (begins_with header) (sym e)
