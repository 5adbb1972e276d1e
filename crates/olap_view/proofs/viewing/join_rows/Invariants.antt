-- The rows so far are joined.
use Rattle.std.proofs.Common.{◌≡◌, ℕ, ◌++◌, List, take}
use Rattle.olap_base.specs.Views.{Row}
use Rattle.olap_view.specs.{Merging.AreMerged, Seen.rows_of}
use Rattle.olap_view.proofs.viewing.join_rows.Given as goal

abbrev pub invariant-rows : goal.invariant-rows
invariant-rows l = record {
  instance : l.table.instance ≡ l.fn.table.instance;
  categories : l.table.categories ≡ l.fn.table.categories;
  merged : (earlier : List (Row ℕ)) → AreMerged earlier l.fn.table
      → AreMerged (earlier ++ rows_of (take l.row-index l.rows)) l.table;
}
