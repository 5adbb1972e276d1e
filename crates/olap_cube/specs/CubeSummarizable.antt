-- Summarizability of cubes, and counterexamples to it.
--     IsCubeSummarizable      the sources' views give the target's, on all legal instances of the schemas
--     Chosen                  a frozen dimension of one of the dimensions, with its root's category and its names
--     IsBadChoice             one for each dimension, whose roots reach the target, and not by exactly one source
--     IsCubeCounterexample    the bad choice that shows that they don't
--     AreOneChoice            two choices that can't be told apart
use Rattle.std.specs.Prelude.{◌≡◌, ℕ, List, [], ◌∷◌, ◌++◌, ℤ, pos, map, flat_map, All, Option, None, Some, ◌↔◌}
use Rattle.std.specs.List.{AllZip}
use Rattle.olap_base.specs.Graph.{Graph, IsBottom, IsHierarchy}
use Rattle.olap_base.specs.Instance.{Instance}
use Rattle.olap_base.specs.Views.{ExactlyOne, ViewsAgree, direct_rows, direct_views, one_fact, only_sum, rows_from_views}
use Rattle.olap_ast.specs.Constants.{HasKinds}
use Rattle.olap_ast.specs.Formula.{Formula.Reach, Formula.Truth}
use Rattle.olap_ast.specs.Frozen.{AreCandidates, AreOneFrozenDimension, Candidates, Frozen, IsFrozen, code, thawed}
use Rattle.olap_ast.specs.Schema.{Schema, IsLegal}
use Rattle.olap_ast.specs.Summarizable.{IsCounterexample, IsSummarizable}
use Rattle.olap_base.specs.Ranks.{IsFirst}
use Rattle.olap_cube.specs.Tuples.{AllZip3, IsTupleOf, TupleReachesVia}
use Rattle.olap_cube.specs.CubeViews.{IsCubeFactTable, tuples}

-- the graph of each schema
abbrev pub graphs_of : List Schema → List Graph
graphs_of schemas = map (λ s. s.graph) schemas

-- for every choice of one legal instance for each schema, and every fact table, the view of c from the sources' direct
-- views is the direct view of c
abbrev pub IsCubeSummarizable : List Schema → List ℕ → List (List ℕ) → Type 0
IsCubeSummarizable schemas c sources = (is : List Instance) → AllZip IsLegal schemas is →
    ViewsAgree (IsCubeFactTable (graphs_of schemas) is) (tuples is) c sources

-- ---- choices

-- a frozen dimension with its root's category, and what its indexes of names stand for
pub record Chosen : Type 0 where
  pub bottom : ℕ
  pub candidates : Candidates
  pub frozen : Frozen

-- it is one of the schema, its root is of a bottom category and reaches c
pub record IsChosen (s : Schema) (c : ℕ) (p : Chosen) : Type 0 where
  pub bottom : IsBottom s.graph p.bottom
  pub candidates : AreCandidates s (Reach c) p.candidates
  pub is_one : IsFrozen s (Reach c) p.bottom p.candidates p.frozen

-- the categories of the roots
abbrev pub bottoms_of : List Chosen → List ℕ
bottoms_of choice = map (λ p. p.bottom) choice

-- the categories of the roots, and then the codes
abbrev pub choice_rank : List Chosen → List ℕ
choice_rank choice = bottoms_of choice ++ flat_map (λ p. code p.frozen) choice

-- the instance that each stands for
abbrev pub instances_of : List Schema → List Chosen → List Instance
instances_of (s ∷ ss) (p ∷ ps) = thawed s p.candidates p.bottom p.frozen ∷ instances_of ss ps
instances_of _ _ = []

-- one for each dimension, whose roots reach the target, and not by exactly one source
pub record IsBadChoice (schemas : List Schema) (c : List ℕ) (sources : List (List ℕ)) (choice : List Chosen) :
    Type 0 where
  pub chosen : AllZip3 IsChosen schemas c choice
  pub roots : List ℕ
  pub roots_are : IsTupleOf (instances_of schemas choice) (bottoms_of choice) roots
  pub bad : ExactlyOne (λ t. TupleReachesVia (instances_of schemas choice) roots t c) sources → ⊥

-- the constraints ask texts of text categories alone, and numbers of number categories alone
abbrev pub IsKinded : Schema → Type 0
IsKinded s = HasKinds s Truth

-- the target is summarizable exactly if no choice is bad
abbrev pub CubeSummarizableExactlyIfNoneBad : Type 0
CubeSummarizableExactlyIfNoneBad = (schemas : List Schema) (c : List ℕ) (sources : List (List ℕ)) →
    All IsHierarchy (graphs_of schemas) → All IsKinded schemas
    → IsCubeSummarizable schemas c sources ↔ ((choice : List Chosen) → IsBadChoice schemas c sources choice → ⊥)

-- ---- counterexamples

-- of the first tuple of bottom categories that has a bad choice, lexicographically by declaration order, the bad choice
-- whose list of codes is lexicographically least; of one dimension all codes are equally long
abbrev pub IsCubeCounterexample : List Schema → List ℕ → List (List ℕ) → List Chosen → Type 0
IsCubeCounterexample schemas c sources choice = IsFirst choice_rank (IsBadChoice schemas c sources) choice

-- place by place one frozen dimension
abbrev pub AreOneChoice : List Schema → List Chosen → List Chosen → Type 0
AreOneChoice [] [] [] = Unit {0}
AreOneChoice (s ∷ ss) (p ∷ ps) (q ∷ qs) =
    AreOneFrozenDimension s p.candidates q.candidates p.bottom q.bottom p.frozen q.frozen × AreOneChoice ss ps qs
AreOneChoice _ _ _ = ⊥

-- there is one counterexample at most, whichever candidates each side brings
abbrev pub TheCubeCounterexampleIsOne : Type 0
TheCubeCounterexampleIsOne = (schemas : List Schema) (c : List ℕ) (sources : List (List ℕ)) (one other : List Chosen) →
    IsCubeCounterexample schemas c sources one → IsCubeCounterexample schemas c sources other →
    AreOneChoice schemas one other

-- ---- the sums of a bad choice

-- the instances are legal, one fact of value 1 at x is a fact table on them, and its two SUMs differ
pub record HasTwoCubeSums (schemas : List Schema) (is : List Instance) (c x : List ℕ) (sources : List (List ℕ)) :
    Type 0 where
  pub legal : AllZip IsLegal schemas is
  pub facts : IsCubeFactTable (graphs_of schemas) is (one_fact x)
  pub direct : only_sum (direct_rows (tuples is) c (one_fact x)) ≡ Some (pos 1)
  pub views :
      only_sum (rows_from_views (tuples is) c (direct_views (tuples is) (one_fact x) sources)) ≡ Some (pos 1) → ⊥

-- the fact of value 1 at the roots of a bad choice has two SUMs
abbrev pub BadChoicesHaveTwoSums : Type 0
BadChoicesHaveTwoSums = (schemas : List Schema) (c : List ℕ) (sources : List (List ℕ)) (choice : List Chosen) →
    (b : IsBadChoice schemas c sources choice)
    → HasTwoCubeSums schemas (instances_of schemas choice) c b.roots sources

-- ---- one dimension

-- a cube of one dimension is summarizable exactly if the dimension is
abbrev pub CubesOfOneDimension : Type 0
CubesOfOneDimension = (s : Schema) (c : ℕ) (sources : List ℕ) →
    IsCubeSummarizable (s ∷ []) (c ∷ []) (map (λ t. t ∷ []) sources) ↔ IsSummarizable s c sources

-- and it has the counterexample that the dimension has
abbrev pub CounterexamplesOfOneDimension : Type 0
CounterexamplesOfOneDimension = (s : Schema) (c : ℕ) (sources : List ℕ) (p : Chosen) →
    IsCubeCounterexample (s ∷ []) (c ∷ []) (map (λ t. t ∷ []) sources) (p ∷ [])
    ↔ IsCounterexample s c sources p.candidates p.bottom p.frozen
