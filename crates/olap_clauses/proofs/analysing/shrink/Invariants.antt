-- Who agrees with what is marked now agrees with what was marked.
use Rattle.std.proofs.Common.{ℕ, ◌≤◌, Bool, length}
use Rattle.olap_clauses.specs.{Marks.AgreesMarked, Standing.Forced, Trails.{steps_of, values_of}}
use Rattle.olap_pool.specs.Pools.{AreTrue}
use Rattle.olap_clauses.proofs.analysing.shrink.Given as goal

abbrev pub invariant-steps : goal.invariant-steps
invariant-steps l = record {
  inside : l.place ≤ length (steps_of l.trail);
  back : (v : ℕ → Bool) → AreTrue v l.pool → Forced v (steps_of l.trail)
      → AgreesMarked v (values_of l.trail) l.seen → AgreesMarked v (values_of l.trail) l.fn.seen;
}

abbrev pub decreases-steps : goal.decreases-steps
decreases-steps l = l.place
