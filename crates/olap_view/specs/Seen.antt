-- The views of the definitions that a `View` and a `Store` stand for.
--     ids          the numbers of categories
--     summary_of   a summary
--     row_of       a row
--     rows_of      rows in order
--     view_of      a view
--     views_of     the views of a store, in order
use Rattle.std.specs.Prelude.{ℕ, List, map}
use Rattle.olap_base.specs.Summaries.{Summary}
use Rattle.olap_base.specs.Views.{Row, View}
use Rattle.olap_base.specs.declared.ids.CatId.{CatId}
use Rattle.olap_view.specs.declared.summaries.Summary as told_summary
use Rattle.olap_view.specs.declared.views.Row as told_row
use Rattle.olap_view.specs.declared.views.View as told_view
use Rattle.olap_view.specs.declared.views.Store.{Store}

-- the numbers of categories
abbrev pub ids : List CatId → List ℕ
ids categories = map (λ c. c.0) categories

-- the summary that a struct stands for
abbrev pub summary_of : told_summary.Summary → Summary
summary_of s = record { count = s.count; sum = s.sum; least = s.least; greatest = s.greatest }

-- the summary in a row's columns
abbrev pub columns_of : told_row.Row → Summary
columns_of r = record { count = r.count; sum = r.sum; least = r.least; greatest = r.greatest }

-- the row that a struct stands for
abbrev pub row_of : told_row.Row → Row ℕ
row_of r = record { at = r.member.0; summary = columns_of r }

-- the rows that structs stand for
abbrev pub rows_of : List told_row.Row → List (Row ℕ)
rows_of rows = map row_of rows

-- the view that a struct stands for
abbrev pub view_of : told_view.View → View ℕ ℕ
view_of v = record { target = v.category.0; rows = rows_of v.rows }

-- the views that structs stand for
abbrev pub each_view_of : List told_view.View → List (View ℕ ℕ)
each_view_of views = map view_of views

-- the views of a store
abbrev pub views_of : Store → List (View ℕ ℕ)
views_of store = each_view_of store.views
