-- The table is as it was, and the rows so far add up to nothing.
use Rattle.std.proofs.Common.{◌≡◌, ℕ, Bool}
use Rattle.olap_pool.specs.Pools.{AreTrue}
use Rattle.olap_parities.specs.{Columns.AreZero, Known.Knows}
use Rattle.olap_parities.proofs.parities.write_rows.Given as goal

abbrev pub invariant-leaders : goal.invariant-leaders
invariant-leaders l = record {
  same : l.values ≡ l.fn.values;
  zero : (v : ℕ → Bool) → AreTrue v l.pool → Knows l.fn.values v → AreZero v l.columns l.rows.items;
}
