-- The inside of a search.
--     IsMadeWith     the search is one for this schema and this question
--     IsSizedFor     a value has the search's sizes
--     found_in       a value with the search's names
use Rattle.std.specs.Prelude.{◌≡◌, ℕ, [], length}
use Rattle.olap_ast.specs.Formula.{Formula}
use Rattle.olap_ast.specs.Frozen.{Candidates}
use Rattle.olap_ast.specs.Schema.{Schema}
use Rattle.olap_ast.specs.Valid.{IsValidSchema}
use Rattle.olap_clauses.specs.Engines.{trail_of, variables_of}
use Rattle.olap_frozen.specs.declared.founding.Found.{Found}
use Rattle.olap_frozen.specs.declared.frozen.Frozen.{Frozen}
use Rattle.olap_names.specs.Names.{Named, candidates_of}
use Rattle.olap_dimsat.specs.declared.searching.Search.{Search}
use Rattle.olap_dimsat.specs.Tasks.{Task, IsTask}
use Rattle.olap_dimsat.specs.Asking.{IsFor, IsSuited, task_at}
use Rattle.olap_dimsat.specs.Pinned.{IsReady}

-- the root that is searched for
abbrev pub root_of : Search → ℕ
root_of search = search.root.0

-- the names that it was made with
abbrev pub named_in : Search → Named
named_in search = search.candidates

-- what name indexes stand for
abbrev pub candidates_in : Search → Candidates
candidates_in search = candidates_of search.candidates

-- the value with the search's names
abbrev pub found_in : Search → Frozen → Found
found_in search f = record { frozen = f; candidates = search.candidates }

-- the value has an entry for each edge and each category
pub record IsSizedFor (search : Search) (f : Frozen) : Type 0 where
  pub edges : length f.edges ≡ length search.best.edges
  pub names : length f.names ≡ length search.best.names

-- the task of a search for this schema and question
abbrev pub task_in : Schema → Formula → Search → Task
task_in s q search = task_at s q search.root.0 search.candidates search.layout

-- the schema is valid, and the search is one for it and this question
pub record IsMadeWith (s : Schema) (q : Formula) (search : Search) : Type 0 where
  pub valid : IsValidSchema s
  pub task : IsTask (task_in s q search)
  pub suited : IsSuited (task_in s q search) search.leaf (variables_of search.engine)
  pub best : IsFor (task_in s q search) search.best
  pub ready : IsReady (task_in s q search) search.engine
  pub empty : trail_of search.engine ≡ []
