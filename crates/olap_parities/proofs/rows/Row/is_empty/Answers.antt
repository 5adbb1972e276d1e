-- Zeros have no sum.
use Rattle.std.proofs.Common.{rules}
use Rattle.olap_parities.proofs.RowLemmas.{sum_zeros}
use Rattle.olap_parities.proofs.rows.Row.is_empty.Goals as goal

pub returns : goal.returns
returns g c = λ _. sum_zeros _ c.words.k (search rules) c.words.invariant
