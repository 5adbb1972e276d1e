-- Zeros have no sum.
use Rattle.olap_parities.proofs.RowLemmas.{sum_replicate}
use Rattle.olap_parities.proofs.rows.Row.empty.Goals as goal

pub returns : goal.returns
returns g c = sum_replicate g.row.W
