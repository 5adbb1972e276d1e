-- The facts and views of cubes that structs stand for.
--     members_of      the numbers of members
--     fact_at         a value at members
--     cube_fact_of    a fact; cube_facts_of a table
--     entry_of        a row as a pair; cube_row_of a row; cube_rows_of rows in order
--     cube_view_of    a view
use Rattle.std.specs.Prelude.{ℕ, ℤ, List, length, map, take}
use Rattle.olap_base.specs.declared.ids.MemberId.{MemberId}
use Rattle.olap_base.specs.Summaries.{Summary}
use Rattle.olap_base.specs.Views.{Fact, Row, View}
use Rattle.olap_view.specs.Seen.{ids, summary_of}
use Rattle.olap_cube_views.specs.declared.tables.CubeFact as told_fact
use Rattle.olap_cube_views.specs.declared.tables.CubeFacts.{CubeFacts}
use Rattle.olap_cube_views.specs.declared.views.CubeRow as told_row
use Rattle.olap_cube_views.specs.declared.views.CubeView as told_view

-- the numbers of members
abbrev pub members_of : List MemberId → List ℕ
members_of members = map (λ m. m.0) members

-- the fact of a value at members
abbrev pub fact_at : List MemberId → ℤ → Fact (List ℕ)
fact_at members value = record { at = members_of members; value = value }

-- the fact that a struct stands for
abbrev pub cube_fact_of : told_fact.CubeFact → Fact (List ℕ)
cube_fact_of f = fact_at f.members f.value

-- the facts of a table, in order
abbrev pub cube_facts_of : CubeFacts → List (Fact (List ℕ))
cube_facts_of facts = map cube_fact_of facts.rows

-- a row as its members, with the first member if there is no dimension, and what is at them
abbrev pub entry_of : told_row.CubeRow → List ℕ × Summary
entry_of r = (r.members.places, summary_of r.summary)

-- the row that a struct stands for, with k dimensions
abbrev pub cube_row_of : ℕ → told_row.CubeRow → Row (List ℕ)
cube_row_of k r = record { at = take k r.members.places; summary = summary_of r.summary }

-- the rows that structs stand for
abbrev pub cube_rows_of : ℕ → List told_row.CubeRow → List (Row (List ℕ))
cube_rows_of k rows = map (cube_row_of k) rows

-- the view that a struct stands for
abbrev pub cube_view_of : told_view.CubeView → View (List ℕ) (List ℕ)
cube_view_of v = record { target = ids v.target; rows = cube_rows_of (length v.target) v.rows }
