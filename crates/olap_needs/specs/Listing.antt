-- The bottom categories that need a constraint, so far, and their constraints.
--     AreBelow       exactly the numbers below some number of which a fact holds
--     ListsBelow     what categories need that are below some category
--     IsAddedTo      what the next category needs is added
--     ListsNeeded    what all need
use Rattle.std.specs.Prelude.{◌≡◌, ◌+◌, ◌<◌, ℕ, List, AllPairs, Contains, map}
use Rattle.olap_ast.specs.Formula.{Formula.Not}
use Rattle.olap_ast.specs.Questions.{IsImplied}
use Rattle.olap_ast.specs.Schema.{Schema}
use Rattle.olap_ast.specs.Trees.{constraint_of, numbers_of}
use Rattle.olap_needs.specs.Needs.{AreEmptied, AreNeeded, IsNeeded, by_one, need}
use Rattle.olap_needs.specs.declared.needing.Needs.{Needs}

-- exactly those below k, ascending
pub record AreBelow (P : ℕ → Type 0) (k : ℕ) (bs : List ℕ) : Type 0 where
  pub ordered : AllPairs ◌<◌ bs
  pub below : (b : ℕ) → Contains bs b → b < k
  pub sound : (b : ℕ) → Contains bs b → P b
  pub complete : (b : ℕ) → b < k → P b → Contains bs b

-- the category needs a constraint that no member of it meets
abbrev pub IsLost : Schema → ℕ → List ℕ → ℕ → Type 0
IsLost s c sources b = IsNeeded s c sources b × IsImplied s b (Not (by_one c sources))

-- what the categories below k need
pub record ListsBelow (s : Schema) (c : ℕ) (sources : List ℕ) (k : ℕ) (needs : Needs) : Type 0 where
  pub bottoms : List ℕ
  pub are : AreBelow (IsNeeded s c sources) k bottoms
  pub same : map constraint_of needs.constraints.items ≡ map (need c sources) bottoms
  pub lost : AreBelow (IsLost s c sources) k (numbers_of needs.emptied.items)

-- what k needs is added
abbrev pub IsAddedTo : Schema → ℕ → List ℕ → ℕ → Needs → Needs → Type 0
IsAddedTo s c sources k old new = ListsBelow s c sources k old → ListsBelow s c sources (k + 1) new

-- what all categories need
pub record ListsNeeded (s : Schema) (c : ℕ) (sources : List ℕ) (needs : Needs) : Type 0 where
  pub bottoms : List ℕ
  pub are : AreNeeded s c sources bottoms
  pub same : map constraint_of needs.constraints.items ≡ map (need c sources) bottoms
  pub emptied : AreEmptied s c sources bottoms (numbers_of needs.emptied.items)
