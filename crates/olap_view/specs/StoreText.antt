-- The text of stored views.
--     records_of_one     the records of a view: one that begins it, and one for each row
--     store_text         the bytes of stored views
--     store_fault        what is wrong with a record
--     store_read         the views that records stand for, or the first fault
--     records_of_store   the records of stored views
use Rattle.std.specs.Prelude.{◌==◌, ◌&&◌, ◌∷◌, Bool, not, ℕ, List, [], length, drop, map, filter, filter_map, find, flat_map, codes, Option, Some, None, is_none, unwrap_or, if◌then◌else◌, nat_le, Result, Ok}
use Rattle.std.specs.List.{list_all, list_any}
use Rattle.std.specs.Option.{option_and_then, option_map}
use Rattle.olap_base.specs.Graph.{Graph}
use Rattle.olap_base.specs.Instance.{Instance, category_of}
use Rattle.olap_base.specs.Limits.{most_views}
use Rattle.olap_base.specs.declared.refusals.Fault.{Fault}
use Rattle.olap_base.specs.Summaries.{Summary}
use Rattle.olap_base.specs.Views.{Row, View, members_of, row_at}
use Rattle.olap_graph.specs.Lookups.{category_named, name_of_category}
use Rattle.olap_records.specs.Faults.{field, first_fault}
use Rattle.olap_records.specs.Tables.{or_read, table_read}
use Rattle.olap_instance.specs.Members.{member_named, member_number}
use Rattle.olap_numerals.specs.Values.{value_of}
use Rattle.olap_records.specs.Texts.{text_of_rows}
use Rattle.olap_view.specs.StoredNumbers.{count_of, sum_of}
use Rattle.olap_view.specs.ViewText as view
use Rattle.olap_view.specs.declared.kinds.StoreKind.{StoreKind}
use Rattle.olap_view.specs.declared.kinds.StoreKind.TheVariants as kind

-- ---- printed

-- the header of a view's text, after the category
abbrev pub header : List (List ℕ)
header = codes "category" ∷ view.header

-- the records of a view: one that begins it, with nothing after the category, and one for each row
abbrev pub records_of_one : Graph → Instance → View ℕ ℕ → List (List (List ℕ))
records_of_one g i v =
    let name = name_of_category g v.target in
    (name ∷ [] ∷ [] ∷ [] ∷ [] ∷ [] ∷ []) ∷ map (λ r. name ∷ view.fields_in i r) v.rows

-- the text of the header, and of the records of each view
abbrev pub store_text : Graph → Instance → List (View ℕ ℕ) → List ℕ
store_text g i views = text_of_rows (header ∷ flat_map (records_of_one g i) views)

-- ---- a row's numbers

-- the four numbers of a row's record, if each is one
abbrev pub summary_read : List (List ℕ) → Option Summary
summary_read r =
    option_and_then (λ n. option_and_then (λ s. option_and_then (λ l. option_map
    (λ g. record { count = n; sum = s; least = l; greatest = g })
    (value_of (field r 5))) (value_of (field r 4))) (sum_of (field r 3))) (count_of (field r 2))

-- ---- a record

-- the fields after the category are empty
abbrev pub is_beginning : List (List ℕ) → Bool
is_beginning r = list_all (λ f. length f == 0) (drop 1 r)

-- the category that a record names, or else `All`
abbrev pub category_number : Graph → List (List ℕ) → ℕ
category_number g r = unwrap_or (category_named g (field r 0)) 0

-- the categories whose views the records begin, in order
abbrev pub begun : Graph → List (List (List ℕ)) → List ℕ
begun g rows = map (category_number g) (filter is_beginning rows)

-- the record is a row of this member
abbrev pub is_row_of : Instance → ℕ → List (List ℕ) → Bool
is_row_of i y r = not (is_beginning r) && (member_number i (field r 1) == y)

-- the first check that a record that begins a view of c fails, after the records before it
abbrev pub beginning_fault : Graph → List (List (List ℕ)) → ℕ → Option StoreKind
beginning_fault g before c =
    if list_any (λ d. d == c) (begun g before) then Some kind.DuplicateView
    else if nat_le most_views (length (begun g before)) then Some kind.TooManyViews
    else None

-- the first check that a row's record fails, after the records before it. A row stands in the view of its member's
-- category, so two rows of one member are two of one view
abbrev pub row_fault : Graph → Instance → List (List (List ℕ)) → List (List ℕ) → Option StoreKind
row_fault g i before r =
    if not (list_any (λ d. d == category_number g r) (begun g before)) then Some kind.NoView
    else if is_none (member_named i (field r 1)) then Some kind.UnknownMember
    else if not (category_of i (member_number i (field r 1)) == category_number g r) then Some kind.WrongCategory
    else if is_none (summary_read r) then Some kind.BadNumber
    else if list_any (is_row_of i (member_number i (field r 1))) before then Some kind.DuplicateRow
    else None

-- the first check that a record fails, after the records before it
abbrev pub store_fault : Graph → Instance → List (List (List ℕ)) → List (List ℕ) → Option StoreKind
store_fault g i before r =
    if not (length r == 6) then Some kind.FieldCount
    else if is_none (category_named g (field r 0)) then Some kind.UnknownCategory
    else if is_beginning r then beginning_fault g before (category_number g r)
    else row_fault g i before r

-- ---- all of them

-- the row of the member y, if some record is one
abbrev pub row_read : Instance → List (List (List ℕ)) → ℕ → Option (Row ℕ)
row_read i rows y = row_at y (option_and_then summary_read (find (is_row_of i y) rows))

-- the view of c: the rows of its members, in file order of the members
abbrev pub view_read : Instance → List (List (List ℕ)) → ℕ → View ℕ ℕ
view_read i rows c = record { target = c; rows = filter_map (row_read i rows) (members_of i c) }

-- the views that the records begin, in order
abbrev pub views_read : Graph → Instance → List (List (List ℕ)) → List (View ℕ ℕ)
views_read g i rows = map (view_read i rows) (begun g rows)

-- what the records of a text stand for
abbrev pub store_read : Graph → Instance → List (List (List ℕ)) → Result (List (View ℕ ℕ)) (Fault StoreKind)
store_read g i = table_read header kind.BadHeader
    (λ rows. or_read (first_fault (store_fault g i) [] rows) (Ok (views_read g i rows)))

-- ---- as it is printed

-- the header, and the records of each view
abbrev pub records_of_store : Graph → Instance → List (View ℕ ℕ) → List (List (List ℕ))
records_of_store g i views = header ∷ flat_map (records_of_one g i) views

-- a record whose fields after the category are empty begins a view
abbrev pub beginning : List ℕ → List (List ℕ)
beginning name = name ∷ [] ∷ [] ∷ [] ∷ [] ∷ [] ∷ []

-- the record that begins the view of that name, and one for each row: the name, and the fields of the row
abbrev pub records_behind : List ℕ → Instance → List (Row ℕ) → List (List (List ℕ))
records_behind name i rows = beginning name ∷ map (λ r. name ∷ view.fields_in i r) rows
