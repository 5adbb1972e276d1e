use Rattle.std.proofs.Common.{◌≡◌, ℕ, ◌<◌}
use Rattle.olap_clauses.specs.Engines.{trail_of, variables_of}
use Rattle.olap_dimsat.specs.{Asking.{IsSuited, task_of}, Pinned.{IsReady, NoneAt}}
use Rattle.olap_dimsat.proofs.settling.settle.Given as goal

abbrev pub invariant-numbers : goal.invariant-numbers
invariant-numbers l = record {
  trail : trail_of l.engine ≡ trail_of l.fn.engine;
  best : l.best ≡ l.fn.best;
  none : (k : ℕ) → k < l.x → NoneAt (task_of l.a) l.p k (trail_of l.fn.engine);
  suited : IsSuited (task_of l.a) l.leaf (variables_of l.engine);
  ready : IsReady (task_of l.a) l.engine;
}
