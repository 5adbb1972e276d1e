-- The branches so far had no more.
use Rattle.std.proofs.Common.{◌≡◌, length}
use Rattle.olap_clauses.specs.Engines.{trail_of, variables_of}
use Rattle.olap_frozen.specs.Leaves.{chosen_of}
use Rattle.olap_dimsat.specs.{Asking.{IsSuited, task_of}, Branches.AreBranches, Pinned.IsReady}
use Rattle.olap_dimsat.proofs.listing.next.Given as goal

abbrev pub invariant-branches : goal.invariant-branches
invariant-branches l = record {
  branches : AreBranches (task_of l.a) l.apart (chosen_of l.fn.best.edges l.fn.best.names) (trail_of l.engine)
      l.branches.items;
  best : l.best ≡ l.fn.best;
  suited : IsSuited (task_of l.a) l.leaf (variables_of l.engine);
  ready : IsReady (task_of l.a) l.engine;
}

abbrev pub decreases-branches : goal.decreases-branches
decreases-branches l = length l.branches.items
