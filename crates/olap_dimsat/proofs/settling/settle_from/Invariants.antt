use Rattle.std.proofs.Common.{ℕ, ◌<◌, ◌≤◌}
use Rattle.olap_clauses.specs.Engines.{trail_of, variables_of}
use Rattle.olap_frozen.specs.Leaves.{chosen_of}
use Rattle.olap_dimsat.specs.{Asking.{IsFor, IsSuited, task_of}, Pinned.{IsLonger, IsPinned, IsReady, IsSame, NoneLess}}
use Rattle.olap_dimsat.proofs.settling.settle_from.Given as goal

abbrev pub invariant-places : goal.invariant-places
invariant-places l = record {
  pinned : IsPinned (task_of l.a) l.p (chosen_of l.best.edges l.best.names) (trail_of l.engine);
  longer : IsLonger (trail_of l.fn.engine) (trail_of l.engine);
  same : IsSame l.from (chosen_of l.best.edges l.best.names) (chosen_of l.fn.best.edges l.fn.best.names);
  least : (q : ℕ) → l.from ≤ q → q < l.p → NoneLess (task_of l.a) q (chosen_of l.best.edges l.best.names);
  known : (q : ℕ) → l.p ≤ q → q < l.known → NoneLess (task_of l.a) q (chosen_of l.best.edges l.best.names);
  best : IsFor (task_of l.a) l.best;
  suited : IsSuited (task_of l.a) l.leaf (variables_of l.engine);
  ready : IsReady (task_of l.a) l.engine;
}
