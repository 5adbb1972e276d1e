-- The views so far stand in the table.
use Rattle.olap_view.{proofs.SummaryTableLemmas.IsFilled, specs.Seen.views_of}
use Rattle.olap_view.proofs.summary_tables.SummaryTable.of.Given as goal

abbrev pub invariant-views : goal.invariant-views
invariant-views l = IsFilled l.legal (views_of l.store) l.view-index l.table
