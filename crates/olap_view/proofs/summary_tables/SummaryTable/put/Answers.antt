-- The summary stands at the member, and nothing changes elsewhere.
use Rattle.std.proofs.Common.{arith}
use Rattle.olap_view.proofs.SummaryTableLemmas.{put_at}
use Rattle.olap_view.proofs.summary_tables.SummaryTable.put.Goals as goal

pub returns-clause-at : goal.returns-clause-at
returns-clause-at c = grind (arith, put_at)
