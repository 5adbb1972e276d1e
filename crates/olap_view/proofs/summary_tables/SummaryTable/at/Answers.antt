-- What stands at the member's place.
use Rattle.std.proofs.Common.{arith}
use Rattle.olap_view.proofs.SummaryTableLemmas.{summarized_is}
use Rattle.olap_view.proofs.summary_tables.SummaryTable.at.Goals as goal

pub returns : goal.returns
returns c = grind (arith, summarized_is)
