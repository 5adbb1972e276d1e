-- Tasks: what is asked of the search.
--     Task      a question, and where the variables are
--     IsOne     a frozen dimension of the task
--     IsLaid    each edge, category and name has a variable
use Rattle.std.specs.Prelude.{◌≡◌, ℕ, ◌+◌, ◌^◌, ◌<◌, ◌≤◌, length}
use Rattle.olap_base.specs.Graph.{Graph, category_count}
use Rattle.olap_ast.specs.Schema.{Schema}
use Rattle.olap_ast.specs.Frozen.{Frozen, IsFrozen}
use Rattle.olap_names.specs.Names.{candidates_of, others_of}
use Rattle.olap_names.specs.Questions.{IsQuestion, Question}
use Rattle.olap_encoding.specs.Layouts.{name_variable}
use Rattle.olap_encoding.specs.declared.layout.Layout.{Layout}

-- a question at a root of a schema, and where the variables are
pub record Task : Type 0 where
  pub question : Question
  pub layout : Layout

-- the schema of a task
abbrev pub schema_of : Task → Schema
schema_of t = t.question.schema

-- and its graph
abbrev pub graph_of : Task → Graph
graph_of t = t.question.schema.graph

-- how many names a category has beside the first: constants, or numerals
abbrev pub constant_count : Task → ℕ → ℕ
constant_count t c = length (others_of t.question.candidates c)

-- the value is a frozen dimension of the task
abbrev pub IsOne : Task → Frozen → Type 0
IsOne t f = IsFrozen (schema_of t) t.question.formula t.question.root (candidates_of t.question.candidates) f

-- the names of the first n categories have their variables before this one
abbrev pub AreNamesBefore : Task → ℕ → ℕ → Type 0
AreNamesBefore t n end = (c j : ℕ) → c < n → j < constant_count t c → name_variable t.layout c j < end

pub record IsLaid (t : Task) : Type 0 where
  pub edges : t.layout.edges ≡ length (graph_of t).edges
  pub starts : length t.layout.starts.items ≡ category_count (graph_of t)
  pub first : 1 + length (graph_of t).edges + category_count (graph_of t) ≤ t.layout.variables
  pub small : t.layout.variables < 2 ^ 32
  pub names : (c j : ℕ) → c < category_count (graph_of t) → j < constant_count t c
      → name_variable t.layout c j < t.layout.variables

-- the question is one that can be searched, and is laid out in variables
pub record IsTask (t : Task) : Type 0 where
  pub question : IsQuestion t.question
  pub laid : IsLaid t
