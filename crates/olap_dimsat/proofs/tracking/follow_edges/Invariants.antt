use Rattle.olap_dimsat.specs.{Asking.task_of, Tracking.{AreRead, IsOf}}
use Rattle.olap_dimsat.proofs.tracking.follow_edges.Given as goal

abbrev pub invariant-edges : goal.invariant-edges
invariant-edges l = record {
  of : IsOf (task_of l.a) l.decided;
  read : AreRead (task_of l.a) l.trail l.decided.decisions;
}
