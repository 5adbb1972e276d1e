-- The totals of the rows of views.
--     total_of_rows   the total of the rows that reach a member
--     AreMerged       it stands at each member of a table's categories
--     HoldsRows       a table of this many stored rows
use Rattle.std.specs.Prelude.{◌≡◌, ℕ, ◌≤◌, List, length, map, filter, Option, All}
use Rattle.olap_base.specs.Reaching.{reaches}
use Rattle.olap_base.specs.Instance.{Instance}
use Rattle.olap_base.specs.Summaries.{Summary, total}
use Rattle.olap_base.specs.Views.{Row}
use Rattle.olap_view.specs.Stores.{IsStored}
use Rattle.olap_view.specs.SummaryTables.{Summarized, stands_at}
use Rattle.olap_view.specs.Tables.{IsAmong}

-- the total of the rows at members that reach y
abbrev pub total_of_rows : Instance → List (Row ℕ) → ℕ → Option Summary
total_of_rows i rows y = total (map (λ r. r.summary) (filter (λ r. reaches i r.at y) rows))

-- at each member of the table's categories stands the total of the rows that reach it
pub record AreMerged (rows : List (Row ℕ)) (t : Summarized) : Type 0 where
  pub at : (y : ℕ) → IsAmong t.instance t.categories y → stands_at t y ≡ total_of_rows t.instance rows y

-- some stored rows stand there, and at most n
pub record HoldsRows (n : ℕ) (t : Summarized) : Type 0 where
  pub rows : List (Row ℕ)
  pub few : length rows ≤ n
  pub stored : All IsStored rows
  pub merged : AreMerged rows t
