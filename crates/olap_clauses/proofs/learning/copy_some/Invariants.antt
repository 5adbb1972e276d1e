-- Who makes all clauses true makes the copies true.
use Rattle.std.proofs.Common.{ℕ, Bool}
use Rattle.olap_pool.specs.Pools.{AreTrue}
use Rattle.olap_clauses.proofs.learning.copy_some.Given as goal

abbrev pub invariant-clauses : goal.invariant-clauses
invariant-clauses l = (v : ℕ → Bool) → AreTrue v l.pool → AreTrue v l.to
