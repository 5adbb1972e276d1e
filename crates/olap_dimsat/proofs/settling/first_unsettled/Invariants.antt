-- The places so far are settled.
use Rattle.std.proofs.Common.{ℕ, ◌-◌, ◌<◌, ◌≤◌}
use Rattle.olap_frozen.specs.Leaves.{chosen_of}
use Rattle.olap_dimsat.specs.{Asking.task_of, Pinned.IsSettled}
use Rattle.olap_dimsat.proofs.settling.first_unsettled.Given as goal

abbrev pub invariant-places : goal.invariant-places
invariant-places l = (q : ℕ) → l.from ≤ q → q < l.p
    → IsSettled (task_of l.a) l.trail q (chosen_of l.best.edges l.best.names)

abbrev pub decreases-places : goal.decreases-places
decreases-places l = 65536 - l.p
