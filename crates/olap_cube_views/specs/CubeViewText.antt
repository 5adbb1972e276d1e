-- The text of a cube's view.
--     fields_in              the fields of a row
--     cube_view_text         its bytes
--     records_of_cube_view   its records
use Rattle.std.specs.Prelude.{ℕ, List, [], ◌∷◌, ◌++◌, codes, length, map, zip}
use Rattle.olap_base.specs.Instance.{Instance, member_at}
use Rattle.olap_base.specs.Views.{Row, View}
use Rattle.olap_records.specs.Texts.{text_of_rows}
use Rattle.olap_view.specs.ViewText.{numbers_of}
use Rattle.olap_cube_views.specs.CubeFactText.{member_columns}

-- the names of the columns, with k dimensions
abbrev pub header : ℕ → List (List ℕ)
header k = member_columns k ++ (codes "count" ∷ codes "sum" ∷ codes "least" ∷ codes "greatest" ∷ [])

-- the ids of the row's members, one of each instance, and its numbers
abbrev pub fields_in : List Instance → Row (List ℕ) → List (List ℕ)
fields_in is r = map (λ p. (member_at p.0 p.1).id) (zip is r.at) ++ numbers_of r.summary

-- the text of the header, and of a record for each row
abbrev pub cube_view_text : List Instance → View (List ℕ) (List ℕ) → List ℕ
cube_view_text is v = text_of_rows (header (length is) ∷ map (fields_in is) v.rows)

-- ---- as it is printed

-- its records
abbrev pub records_of_cube_view : List Instance → View (List ℕ) (List ℕ) → List (List (List ℕ))
records_of_cube_view is v = header (length is) ∷ map (fields_in is) v.rows

-- the ids of members, one of each instance
abbrev pub ids_in : List Instance → List ℕ → List (List ℕ)
ids_in is ys = map (λ p. (member_at p.0 p.1).id) (zip is ys)
