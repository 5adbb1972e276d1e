-- The table is as it was learned.
use Rattle.std.proofs.Common.{ℕ, Bool}
use Rattle.olap_pool.specs.Pools.{AreTrue}
use Rattle.olap_parities.specs.Known.{Knows}
use Rattle.olap_parities.proofs.counting.Counting.is_overfull.Given as goal

abbrev pub invariant-sizes : goal.invariant-sizes
invariant-sizes l = (v : ℕ → Bool) → AreTrue v l.pool → Knows l.self.values.items v
