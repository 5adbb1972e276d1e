-- Questions: a formula that is asked of the member of a root, in a schema.
--     Question       a schema, a formula, a root, and the names that members may have
--     question_of    the question that a value of the program stands for
--     IsQuestion     what a question must be to be searched
use Rattle.std.specs.Prelude.{◌≡◌, ℕ, length, map}
use Rattle.olap_base.specs.Graph.{IsCategory, IsHierarchy, category_count}
use Rattle.olap_ast.specs.Formula.{Formula}
use Rattle.olap_ast.specs.Frozen.{AreCandidates}
use Rattle.olap_ast.specs.Schema.{Schema}
use Rattle.olap_ast.specs.Trees.{constraint_of, formula_of}
use Rattle.olap_names.specs.Names.{Named, candidates_of, with_graph}
use Rattle.olap_names.specs.declared.questions.Question as declared

-- a formula at the root of a frozen dimension, in a schema, with the names that members may have
pub record Question : Type 0 where
  pub schema : Schema
  pub formula : Formula
  pub root : ℕ
  pub candidates : Named

-- the question that a `Question` of the program stands for
abbrev pub question_of : declared.Question → Question
question_of q = record {
  schema = with_graph q.graph.now (map constraint_of q.constraints.now);
  formula = formula_of q.formula.now;
  root = q.root.0;
  candidates = q.candidates.now;
}

-- its root is a category of a hierarchy, and the names are the candidates of schema and formula, of each category some
pub record IsQuestion (q : Question) : Type 0 where
  pub hierarchy : IsHierarchy q.schema.graph
  pub root : IsCategory q.schema.graph q.root
  pub candidates : AreCandidates q.schema q.formula (candidates_of q.candidates)
  pub texts : length q.candidates.texts ≡ category_count q.schema.graph
