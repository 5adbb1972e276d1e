-- A task that was put to an engine.
--     IsPosed    it is the task of this question at this root, and the engine has its clauses
use Rattle.std.specs.Prelude.{◌≡◌, ℕ, []}
use Rattle.olap_ast.specs.Formula.{Formula}
use Rattle.olap_ast.specs.Schema.{Schema}
use Rattle.olap_clauses.specs.Engines.{trail_of, variables_of}
use Rattle.olap_dimsat.specs.declared.posing.Posed.{Posed}
use Rattle.olap_dimsat.specs.Tasks.{Task, IsTask}
use Rattle.olap_dimsat.specs.Asking.{task_at}
use Rattle.olap_dimsat.specs.Pinned.{IsReady}

-- the task that was put to an engine
abbrev pub task_posed : Schema → Formula → ℕ → Posed → Task
task_posed s q r p = task_at s q r p.candidates p.layout

-- the names and the variables are the task's, and the engine, in which nothing stands, has its clauses
pub record IsPosed (s : Schema) (q : Formula) (r : ℕ) (p : Posed) : Type 0 where
  pub task : IsTask (task_posed s q r p)
  pub variables : variables_of p.engine ≡ p.layout.variables
  pub ready : IsReady (task_posed s q r p) p.engine
  pub empty : trail_of p.engine ≡ []
