-- The views of the places are those of what stands there.
use Rattle.std.proofs.Common.{arith}
use Rattle.olap_view.proofs.SummaryTableLemmas.{views_at-are}
use Rattle.olap_base.proofs.GeneralLemmas.{if_ok}
use Rattle.olap_view.specs.declared.views.View as told
use Rattle.olap_view.proofs.summary_tables.SummaryTable.views.Goals as goal

pub returns-clause-views : goal.returns-clause-views
returns-clause-views c = grind (arith, if_ok, views_at-are)
