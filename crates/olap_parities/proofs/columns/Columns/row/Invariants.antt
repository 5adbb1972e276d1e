-- The row so far and the variables left add up to the same.
use Rattle.std.proofs.Common.{ℕ, Bool}
use Rattle.olap_parities.{proofs.ColumnLemmas.IsSoFar, specs.Columns.row_value}
use Rattle.olap_parities.proofs.columns.Columns.row.Given as goal

abbrev pub invariant-variables : goal.invariant-variables
invariant-variables g l = (v : ℕ → Bool) → IsSoFar v (row_value v l.self l.row) l.variables l.k l.odd
