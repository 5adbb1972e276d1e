-- The view of the places is that of what stands there.
use Rattle.std.proofs.Common.{arith}
use Rattle.olap_view.proofs.SummaryTableLemmas.{view_at-is}
use Rattle.olap_base.proofs.GeneralLemmas.{if_ok}
use Rattle.olap_view.specs.declared.views.View as told
use Rattle.olap_view.proofs.summary_tables.SummaryTable.view.Goals as goal

pub returns-clause-view : goal.returns-clause-view
returns-clause-view c = grind (arith, if_ok, view_at-is)
