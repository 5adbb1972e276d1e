-- The categories of the views so far.
use Rattle.std.proofs.Common.{◌≡◌, take}
use Rattle.olap_view.specs.{Seen.{each_view_of, ids}, SummaryTables.categories_in}
use Rattle.olap_view.proofs.summary_tables.categories.Given as goal

abbrev pub invariant-views : goal.invariant-views
invariant-views l = ids l.categories.items ≡ categories_in (each_view_of (take l.view-index l.view-items))
