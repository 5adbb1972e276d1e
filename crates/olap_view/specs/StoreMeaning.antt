-- What a text of stored views means: the views, or the name of its first fault.
--     views_begun    the categories whose views records begin
--     row_meant      the row of a record that is one
--     record_meant   what a record means: a row, or that it begins a view
--     store_meant    the views of a text
use Rattle.std.specs.Prelude.{◌==◌, ◌&&◌, Bool, false, not, ℕ, List, [], length, map, filter, filter_map, codes, Option, Some, None, if◌then◌else◌, nat_le, Result, Ok, Err}
use Rattle.std.specs.List.{list_any}
use Rattle.std.specs.Option.{option_map_or}
use Rattle.olap_base.specs.Following.{given, goes_on}
use Rattle.olap_base.specs.Graph.{Graph}
use Rattle.olap_base.specs.Instance.{Instance, category_of}
use Rattle.olap_base.specs.Limits.{most_views}
use Rattle.olap_base.specs.Views.{Row, View, members_of}
use Rattle.olap_base.specs.declared.refusals.Fault.{Fault}
use Rattle.olap_graph.specs.Lookups.{category_named}
use Rattle.olap_records.specs.Faults.{field}
use Rattle.olap_records.specs.Tables.{all_read, table_meant}
use Rattle.olap_instance.specs.Members.{member_named}
use Rattle.olap_view.specs.StoreText.{header, is_beginning, summary_read}
use Rattle.olap_view.specs.Stores.{row_in}

-- the categories whose views the records begin, in order
abbrev pub views_begun : Graph → List (List (List ℕ)) → List ℕ
views_begun g rows = filter_map (λ r. category_named g (field r 0)) (filter is_beginning rows)

-- the record is a row of this member
abbrev pub is_row_at : Instance → ℕ → List (List ℕ) → Bool
is_row_at i y r = not (is_beginning r) && option_map_or (λ x. x == y) (member_named i (field r 1)) false

-- The row in c's view of a record that begins none, or the first check that it fails, after the records before it. A row
-- stands in the view of its member's category, so two rows of one member are two of one view.
abbrev pub row_meant : Instance → List (List (List ℕ)) → List (List ℕ) → ℕ → Result (Option (Row ℕ)) (List ℕ)
row_meant i before r c =
    given (member_named i (field r 1)) (codes "UnknownMember") (λ y.
    if not (category_of i y == c) then Err (codes "WrongCategory")
    else given (summary_read r) (codes "BadNumber") (λ s.
    if list_any (is_row_at i y) before then Err (codes "DuplicateRow")
    else Ok (Some (record { at = y; summary = s }))))

-- a record's row, or none if it begins a view; or the first check that it fails, after the records before it
abbrev pub record_meant : Graph → Instance → List (List (List ℕ)) → List (List ℕ) → Result (Option (Row ℕ)) (List ℕ)
record_meant g i before r =
    if not (length r == 6) then Err (codes "FieldCount")
    else given (category_named g (field r 0)) (codes "UnknownCategory") (λ c.
    let is_begun = list_any (λ d. d == c) (views_begun g before) in
    if is_beginning r then (if is_begun then Err (codes "DuplicateView")
    else if nat_le most_views (length (views_begun g before)) then Err (codes "TooManyViews") else Ok None)
    else if is_begun then row_meant i before r c else Err (codes "NoView"))

-- the view of c: the rows of its members, in file order of the members
abbrev pub view_meant : Instance → List (Row ℕ) → ℕ → View ℕ ℕ
view_meant i rows c = record { target = c; rows = filter_map (row_in rows) (members_of i c) }

-- the views that a text's records begin, in order
abbrev pub store_meant : Graph → Instance → List (List (List ℕ)) → Result (List (View ℕ ℕ)) (Fault (List ℕ))
store_meant g i = table_meant header (λ records. goes_on (all_read (record_meant g i) [] records) (λ rows.
    Ok (map (view_meant i (filter_map (λ o. o) rows)) (views_begun g records))))
