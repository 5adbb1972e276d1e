-- The places so far are kept, and have their branches.
use Rattle.std.proofs.Common.{◌≡◌}
use Rattle.olap_clauses.specs.Engines.{trail_of, variables_of}
use Rattle.olap_frozen.specs.Leaves.{chosen_of}
use Rattle.olap_dimsat.specs.{Asking.task_of, Branches.AreBranches, Pinned.{IsPinned, IsReady}}
use Rattle.olap_dimsat.proofs.branching.branch_from.Given as goal

abbrev pub invariant-places : goal.invariant-places
invariant-places l = record {
  pinned : IsPinned (task_of l.a) l.p (chosen_of l.best.edges l.best.names) (trail_of l.engine);
  branches : AreBranches (task_of l.a) l.p (chosen_of l.best.edges l.best.names) (trail_of l.engine) l.branches.items;
  variables : variables_of l.engine ≡ variables_of l.fn.engine;
  ready : IsReady (task_of l.a) l.engine;
}
