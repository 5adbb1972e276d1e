-- The rows so far stand in the table.
use Rattle.std.{proofs.Common.{◌≡◌, ℕ, take}, specs.Option.option_or}
use Rattle.olap_view.specs.{Seen.rows_of, Stores.summary_in, SummaryTables.stands_at, Tables.IsAmong}
use Rattle.olap_view.proofs.summary_tables.SummaryTable.fill.Given as goal

abbrev pub invariant-rows : goal.invariant-rows
invariant-rows l = record {
  instance : l.self.instance ≡ l.fn.self.instance;
  categories : l.self.categories ≡ l.fn.self.categories;
  at : (y : ℕ) → IsAmong l.fn.self.instance l.fn.self.categories y
      → stands_at l.self y ≡ option_or (summary_in (rows_of (take l.row-index l.row-items)) y) (stands_at l.fn.self y);
}
