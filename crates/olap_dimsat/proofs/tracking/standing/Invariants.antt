use Rattle.std.proofs.Common.{ℕ, ◌<◌, get_or}
use Rattle.olap_trail.specs.Decisions.{Decision}
use Rattle.olap_dimsat.specs.{Asking.task_of, Reads.EdgeReads}
use Rattle.olap_dimsat.proofs.tracking.standing.Given as goal

-- the trail makes the decisions so far
abbrev pub invariant-decisions : goal.invariant-decisions
invariant-decisions l = (i : ℕ) (d : Decision) → i < l.k
    → EdgeReads (task_of l.a) l.trail (get_or l.decided.decisions i d).edge (get_or l.decided.decisions i d).present
