-- Questions of summarizability, and what decides them.
--     duplicate_source         why there are no questions
--     target_of, sources_of    what is asked about
--     AreQuestionsFor          they are about categories of a schema
--     roots_in                 the categories that a decision searches
--     candidates_at            the names of a category's search
--     found_at                 a value with the names of its root's search
--     HasSizesOf               a value has the decision's sizes
--     IsDecisionOf             a decision is one for a schema and its questions
--     DecisionsAgree           what it shows is the same at each call
use Rattle.std.specs.Prelude.{◌≡◌, ◌<◌, ◌↔◌, ◌==◌, ℕ, List, [], ◌∷◌, All, AllPairs, Contains, if◌then◌else◌, length, map}
use Rattle.olap_base.specs.Graph.{IsBottom, IsCategory, category_count}
use Rattle.olap_ast.specs.Formula.{Formula}
use Rattle.olap_ast.specs.Schema.{Schema}
use Rattle.olap_ast.specs.Summarizable.{not_by_one}
use Rattle.olap_ast.specs.Trees.{formula_of, numbers_of}
use Rattle.olap_ast.specs.Valid.{IsValidSchema}
use Rattle.olap_dimsat.specs.Searches.{IsMadeWith, named_in, root_of}
use Rattle.olap_frozen.specs.declared.founding.Found.{Found}
use Rattle.olap_frozen.specs.declared.frozen.Frozen.{Frozen}
use Rattle.olap_frozen.specs.LeastFound.{frozen_of}
use Rattle.olap_names.specs.Names.{Named}
use Rattle.olap_summ.specs.Counterexamples.{IsCounterexampleFound}
use Rattle.olap_summ.specs.declared.deciding.Asked.{Asked}
use Rattle.olap_summ.specs.declared.deciding.Decision.{Decision}
use Rattle.olap_summ.specs.declared.questioning.DuplicateSource.{DuplicateSource}
use Rattle.olap_summ.specs.declared.questioning.Questions.{Questions}

-- ---- questions

-- a source stands twice
abbrev pub duplicate_source : DuplicateSource
duplicate_source = record {}

-- the category whose totals are asked about
abbrev pub target_of : Questions → ℕ
target_of q = q.target.0

-- the categories that they are to be taken from
abbrev pub sources_of : Questions → List ℕ
sources_of q = numbers_of q.sources

-- what is asked at each bottom category
abbrev pub asked_by : Questions → Formula
asked_by q = formula_of q.formula

-- they are about categories of the schema, and ask for a member that reaches the target, and not by exactly one source
pub record AreQuestionsFor (s : Schema) (q : Questions) : Type 0 where
  pub target : IsCategory s.graph (target_of q)
  pub sources : All (IsCategory s.graph) (sources_of q)
  pub asked : asked_by q ≡ not_by_one (target_of q) (sources_of q)

-- ---- decisions

-- the root of each search
abbrev pub roots_of : List Asked → List ℕ
roots_of asked = map (λ a. a.root.0) asked

-- the categories that are searched
abbrev pub roots_in : Decision → List ℕ
roots_in d = roots_of d.searches.items

-- the names of the first search of this category
abbrev pub names_among : List Asked → ℕ → Named
names_among [] r = record { fresh = []; first = []; texts = [] }
names_among (a ∷ rest) r = if a.root.0 == r then named_in a.search else names_among rest r

-- the names that the category's search was made with
abbrev pub candidates_at : Decision → ℕ → Named
candidates_at d r = names_among d.searches.items r

-- the value with the names of its root's search
abbrev pub found_at : Decision → Frozen → Found
found_at d f = record { frozen = f; candidates = candidates_at d f.root.0 }

-- the value has an entry for each edge and each category
pub record HasSizesOf (d : Decision) (f : Frozen) : Type 0 where
  pub edges : length f.edges ≡ d.edges
  pub names : length f.names ≡ d.categories

-- the search is one for the schema, the formula and its category
pub record IsAskedOf (s : Schema) (q : Formula) (a : Asked) : Type 0 where
  pub made : IsMadeWith s q a.search
  pub root : root_of a.search ≡ a.root.0

-- the questions are the schema's; there is a search of each bottom category and no other, in declaration order; and
-- the sizes are the schema's
pub record IsDecisionOf (s : Schema) (q : Questions) (d : Decision) : Type 0 where
  pub questions : AreQuestionsFor s q
  pub asked : All (IsAskedOf s (asked_by q)) d.searches.items
  pub ordered : AllPairs ◌<◌ (roots_in d)
  pub bottoms : (b : ℕ) → Contains (roots_in d) b ↔ IsBottom s.graph b
  pub edges : d.edges ≡ length s.graph.edges
  pub categories : d.categories ≡ category_count s.graph

-- where the names stayed, the counterexamples that are shown before and after have the same root, edges and indexes
abbrev pub DecisionsAgree : Type 0
DecisionsAgree = (s : Schema) (q : Questions) (d e : Decision) (f h : Frozen) → IsValidSchema s
    → ((r : ℕ) → candidates_at e r ≡ candidates_at d r)
    → IsCounterexampleFound s (target_of q) (sources_of q) (found_at d f)
    → IsCounterexampleFound s (target_of q) (sources_of q) (found_at e h)
    → (f.root.0 ≡ h.root.0) × (frozen_of f ≡ frozen_of h)
