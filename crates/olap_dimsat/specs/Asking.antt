-- The task of an asker, and the state that it works in.
use Rattle.std.specs.Prelude.{◌≡◌, ℕ, length}
use Rattle.olap_base.specs.Graph.{category_count}
use Rattle.olap_ast.specs.Formula.{Formula}
use Rattle.olap_ast.specs.Schema.{Schema}
use Rattle.olap_names.specs.Names.{Named}
use Rattle.olap_names.specs.Questions.{question_of}
use Rattle.olap_frozen.specs.declared.frozen.Frozen.{Frozen}
use Rattle.olap_dimsat.specs.declared.asker.Asker.{Asker}
use Rattle.olap_dimsat.specs.declared.asker.Leaf.{Leaf}
use Rattle.olap_encoding.specs.declared.layout.Layout.{Layout}
use Rattle.olap_dimsat.specs.Tasks.{Task, IsTask, graph_of}
use Rattle.olap_dimsat.specs.Tracking.{IsOf}

-- the task of an asker
abbrev pub task_of : Asker → Task
task_of a = record { question = question_of a.question; layout = a.layout.now }

-- a question at a root of a schema, with these names and variables
abbrev pub task_at : Schema → Formula → ℕ → Named → Layout → Task
task_at s q r named layout = record {
  question = record { schema = s; formula = q; root = r; candidates = named };
  layout = layout;
}

-- the value has the root, and an entry for each edge and each category
pub record IsFor (t : Task) (frozen : Frozen) : Type 0 where
  pub root : frozen.root.0 ≡ t.question.root
  pub edges : length frozen.edges ≡ length (graph_of t).edges
  pub names : length frozen.names ≡ category_count (graph_of t)

-- the state has room for the task, and there are this many variables
pub record IsSuited (t : Task) (leaf : Leaf) (n : ℕ) : Type 0 where
  pub task : IsTask t
  pub frozen : IsFor t leaf.frozen
  pub decided : IsOf t leaf.decided
  pub room : length leaf.room.rows.items ≡ category_count (graph_of t)
  pub variables : n ≡ t.layout.variables
