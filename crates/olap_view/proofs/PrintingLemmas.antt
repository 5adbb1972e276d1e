-- Printing a view row by row, and reading its text back.
use Rattle.std.proofs.Common.{◌≡◌, ◌+◌, ◌<◌, ◌++◌, ◌∷◌, ℕ, List, length, map, take, get_or, append_assoc, arith}
use Rattle.std.proofs.lemmas.{Grind.common_steps, List.{map-append, take_more}, List.Elements.All-map}
use Rattle.olap_base.specs.{Instance.Instance, Views.{Row, View}}
use Rattle.olap_records.{proofs.ReadingBack.{text-back, texts-push}, specs.Records.records_of}
use Rattle.olap_records.specs.Texts.{text_of_row, text_of_rows}
use Rattle.olap_view.specs.{Seen.{row_of, rows_of}, ViewText.{fields_in, header, records_of_view, view_text}}
use Rattle.olap_instance.proofs.Passing.{all-full}
use Rattle.olap_view.specs.declared.views.Row as told

-- one row more after what was there
pub row_more : (first : List ℕ) (top : List (List ℕ)) (fields : Row ℕ → List (List ℕ)) (rows : List told.Row) (k : ℕ)
    (d : told.Row) (out new : List ℕ) → k < length rows
    → out ≡ first ++ text_of_rows (top ∷ map fields (rows_of (take k rows)))
    → new ≡ out ++ text_of_row (fields (row_of (get_or rows k d)))
    → new ≡ first ++ text_of_rows (top ∷ map fields (rows_of (take (k + 1) rows)))
row_more first top fields rows k d out new l eo en =
    grind (arith, common_steps, take_more, map-append, append_assoc, texts-push)

-- the text of a view reads back
pub view-reads : (i : Instance) (v : View ℕ ℕ) → records_of (view_text i v) ≡ records_of_view i v
view-reads i v =
    text-back (records_of_view i v)
    (all-full header (map (fields_in i) v.rows) (omega arith)
    (All-map (λ r. 0 < length r) (fields_in i) v.rows (λ k d l. omega arith)))
    (λ e. absurd (omega arith))
