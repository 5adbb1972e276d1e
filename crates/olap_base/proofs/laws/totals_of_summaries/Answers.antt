use Rattle.olap_base.proofs.TotalLemmas.{totals_of_summaries}
use Rattle.olap_base.proofs.laws.totals_of_summaries.Goals as goal

pub returns : goal.returns
returns c = totals_of_summaries
