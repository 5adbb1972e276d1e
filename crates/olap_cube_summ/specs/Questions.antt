-- Questions about the dimensions of a cube.
--     duplicate_source    why there are no questions
--     IsQuestionOf        a question has categories of a schema
--     AreQuestionsOf      of each dimension one of its schema
--     AreQuestions        together they ask for a target and sources
use Rattle.std.specs.Prelude.{◌≡◌, ◌<◌, ◌≤◌, ℕ, List, [], All, length, map, slice_index, slice_index_or}
use Rattle.olap_ast.specs.Schema.{Schema}
use Rattle.olap_base.specs.Graph.{IsCategory}
use Rattle.olap_base.specs.Limits.{most_views}
use Rattle.olap_cube_summ.specs.Dimensions.{no_schema}
use Rattle.olap_ast.specs.Trees.{numbers_of}
use Rattle.olap_cube_summ.specs.declared.questions.Question.{Question}
use Rattle.olap_cube_summ.specs.declared.summarizing.DuplicateSource.{DuplicateSource}

-- a source stands twice
abbrev pub duplicate_source : DuplicateSource
duplicate_source = record {}

-- the target in one dimension
abbrev pub target_in : Question → ℕ
target_in q = q.target.0

-- the sources in one dimension
abbrev pub sources_in : Question → List ℕ
sources_in q = numbers_of q.sources

-- what stands past the last question
abbrev pub no_question : Question
no_question = record { target = record { 0 = 0 }; sources = [] }

-- its categories are ones of the schema, and there are no more sources than a pattern has bits for
pub record IsQuestionOf (s : Schema) (q : Question) : Type 0 where
  pub target : IsCategory s.graph (target_in q)
  pub sources : All (IsCategory s.graph) (sources_in q)
  pub few : length q.sources ≤ most_views

-- a question of each dimension
pub record AreQuestionsOf (schemas : List Schema) (questions : List Question) : Type 0 where
  pub count : length questions ≡ length schemas
  pub each : (i : ℕ) → i < length schemas →
      IsQuestionOf (slice_index_or schemas i no_schema) (slice_index_or questions i no_question)

-- the i-th category of each tuple
pub record IsColumn (i : ℕ) (tuples : List (List ℕ)) (column : List ℕ) : Type 0 where
  pub count : length column ≡ length tuples
  pub each : (k : ℕ) → k < length tuples → slice_index column k ≡ slice_index (slice_index_or tuples k []) i

-- the k-th source, dimension by dimension
abbrev pub row : ℕ → List Question → List ℕ
row k questions = map (λ q. slice_index (sources_in q) k) questions

-- they ask through which of these sources the target is reached
pub record AreQuestions (c : List ℕ) (sources : List (List ℕ)) (questions : List Question) : Type 0 where
  pub targets : map target_in questions ≡ c
  pub counts : All (λ q. length q.sources ≡ length sources) questions
  pub rows : (k : ℕ) → k < length sources → row k questions ≡ slice_index_or sources k []
