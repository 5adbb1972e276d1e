-- Who agrees with the trail, and makes all clauses true, makes the copies true.
use Rattle.std.{proofs.Common.{◌≤◌, ℕ, Bool}, specs.Prelude.vec_capacity}
use Rattle.olap_clauses.specs.{Standing.Agrees, Trails.steps_of}
use Rattle.olap_pool.specs.Pools.{AreTrue}
use Rattle.olap_clauses.proofs.simplifying.copy_all.Given as goal

abbrev pub invariant-clauses : goal.invariant-clauses
invariant-clauses l = record {
  copied : (v : ℕ → Bool) → Agrees v (steps_of l.trail) → AreTrue v l.pool → AreTrue v l.to;
  room : vec_capacity l.fn.work ≤ vec_capacity l.work;
}
