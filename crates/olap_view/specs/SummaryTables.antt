-- Summary tables: what stands at the members of some categories.
--     Summarized       what a table has
--     stands_at        what stands at a member
--     view_at          the view of a category
--     views_at         the views of the table's categories
--     categories_in    the categories of views
--     summarized       what a table over these places has
--     IsSummaryTable   what is true of the places of every table
use Rattle.std.specs.Prelude.{◌≢◌, ℕ, List, length, map, filter_map, slice_index_or, AllPairs, Option, None}
use Rattle.std.specs.List.{range_with_len}
use Rattle.olap_base.specs.Instance.{Instance}
use Rattle.olap_base.specs.Summaries.{Summary}
use Rattle.olap_base.specs.Views.{View, members_of, row_at}
use Rattle.olap_view.specs.Tables.{HasPlaces, categories_of, summary_at}
use Rattle.olap_view.specs.declared.tables.Table.{Table}

-- a summary or none at each member of an instance; only those at members of some categories say something
pub record Summarized : Type 0 where
  pub instance : Instance
  pub categories : List ℕ
  pub summaries : List (Option Summary)

-- what stands at y
abbrev pub stands_at : Summarized → ℕ → Option Summary
stands_at t y = slice_index_or t.summaries y None

-- the view of c: a row for each of its members at which something stands, in file order
abbrev pub view_at : Summarized → ℕ → View ℕ ℕ
view_at t c = record { target = c; rows = filter_map (λ y. row_at y (stands_at t y)) (members_of t.instance c) }

-- the views of the table's categories, in order
abbrev pub views_at : Summarized → List (View ℕ ℕ)
views_at t = map (view_at t) t.categories

-- the categories of views, in order
abbrev pub categories_in : List (View ℕ ℕ) → List ℕ
categories_in views = map (λ v. v.target) views

-- ---- within

-- what a table over these places has
abbrev pub summarized : Instance → Table → Summarized
summarized i t = record {
  instance = i;
  categories = categories_of t;
  summaries = map (summary_at t) (range_with_len 0 (length i));
}

-- each member of the categories has a place, and the categories differ
pub record IsSummaryTable (i : Instance) (t : Table) : Type 0 where
  pub places : HasPlaces i t
  pub differ : AllPairs ◌≢◌ (categories_of t)
