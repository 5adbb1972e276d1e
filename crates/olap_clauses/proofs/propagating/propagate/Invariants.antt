-- What was forced so far. Each literal is looked at once, and there are at most as many as
-- variables.
use Rattle.std.proofs.Common.{◌-◌, length}
use Rattle.olap_clauses.specs.{Admits.Extends, Trails.values_of}
use Rattle.olap_clauses.proofs.propagating.propagate.Given as goal

abbrev pub invariant-steps : goal.invariant-steps
invariant-steps l = Extends l.pool l.fn.trail l.trail

abbrev pub decreases-steps : goal.decreases-steps
decreases-steps l = length (values_of l.trail) - l.done
