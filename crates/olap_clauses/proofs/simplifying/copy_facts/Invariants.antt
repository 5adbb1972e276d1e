-- Who agrees with the trail makes the clauses so far true.
use Rattle.std.proofs.Common.{ℕ, Bool}
use Rattle.olap_clauses.specs.{Standing.Agrees, Trails.steps_of}
use Rattle.olap_pool.specs.Pools.{AreTrue}
use Rattle.olap_clauses.proofs.simplifying.copy_facts.Given as goal

abbrev pub invariant-steps : goal.invariant-steps
invariant-steps l =
    (v : ℕ → Bool) → Agrees v (steps_of l.trail) → AreTrue v l.fn.to → AreTrue v l.to
