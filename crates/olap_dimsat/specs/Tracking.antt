-- The decisions on edges, beside an engine's trail.
--     IsOf         they are on the task's graph, from its root
--     AreRead      each of them is so in each frozen dimension that agrees with the trail
--     IsTracked    both, for a task that is laid out
use Rattle.std.specs.Prelude.{◌≡◌, List, All}
use Rattle.olap_clauses.specs.declared.trails.Trail.{Trail}
use Rattle.olap_trail.specs.Decisions.{Decided, Decision}
use Rattle.olap_dimsat.specs.Reads.{EdgeReads}
use Rattle.olap_dimsat.specs.Tasks.{Task, IsTask, graph_of}

-- the decisions are on the task's graph, from its root
pub record IsOf (t : Task) (d : Decided) : Type 0 where
  pub graph : d.graph ≡ graph_of t
  pub root : d.root ≡ t.question.root

-- each decision is so in each frozen dimension that agrees with the trail
abbrev pub AreRead : Task → Trail → List Decision → Type 0
AreRead t trail ds = All (λ d. EdgeReads t trail d.edge d.present) ds

pub record IsTracked (t : Task) (trail : Trail) (d : Decided) : Type 0 where
  pub task : IsTask t
  pub of : IsOf t d
  pub read : AreRead t trail d.decisions
