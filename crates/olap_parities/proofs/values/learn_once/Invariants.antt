-- Who makes the clauses true is as the table says.
use Rattle.std.proofs.Common.{ℕ, Bool}
use Rattle.olap_pool.specs.Pools.{AreTrue}
use Rattle.olap_parities.specs.Known.{Knows}
use Rattle.olap_parities.proofs.values.learn_once.Given as goal

abbrev pub invariant-clauses : goal.invariant-clauses
invariant-clauses l = (v : ℕ → Bool) → AreTrue v l.pool → Knows l.fn.values v → Knows l.values v
