use Rattle.olap_base.proofs.TotalLemmas.{totals_of_values}
use Rattle.olap_base.proofs.laws.totals_of_values.Goals as goal

pub returns : goal.returns
returns c = totals_of_values
