-- The shapes of a category: the sets of edges that its frozen dimensions have.
--     IsLeastOfShape   the least frozen dimension with its edges
--     AreShapes        for each shape the least frozen dimension with it, by their codes
--     AreMoreShapes    there are more shapes than a limit
use Rattle.std.specs.Prelude.{◌≡◌, ◌≢◌, ◌<◌, ℕ, List, AllPairs, Contains, length}
use Rattle.olap_ast.specs.Formula.{Formula}
use Rattle.olap_ast.specs.Frozen.{AreCandidates, Candidates, Frozen, IsFrozen, code}
use Rattle.olap_ast.specs.Schema.{Schema}
use Rattle.olap_base.specs.Ranks.{IsNotAfter}
use Rattle.olap_dimsat.specs.Listed.{IsBefore}

-- f is a frozen dimension with root r for the question, and none with the same edges has a smaller code
pub record IsLeastOfShape (s : Schema) (q : Formula) (r : ℕ) (k : Candidates) (f : Frozen) : Type 0 where
  pub is_one : IsFrozen s q r k f
  pub least : (h : Frozen) → IsFrozen s q r k h → h.edges ≡ f.edges → IsNotAfter (code f) (code h)

-- for each set of edges that a frozen dimension has, the least frozen dimension with these edges, by their codes
pub record AreShapes (s : Schema) (q : Formula) (r : ℕ) (k : Candidates) (shapes : List Frozen) : Type 0 where
  pub candidates : AreCandidates s q k
  pub ordered : AllPairs IsBefore shapes
  pub sound : (f : Frozen) → Contains shapes f → IsLeastOfShape s q r k f
  pub complete : (f : Frozen) → IsFrozen s q r k f → (h : Frozen) × Contains shapes h × (h.edges ≡ f.edges)

-- more than n frozen dimensions, no two of which have the same edges
pub record AreMoreShapes (n : ℕ) (s : Schema) (q : Formula) (r : ℕ) (k : Candidates) : Type 0 where
  pub candidates : AreCandidates s q k
  pub some : List Frozen
  pub many : n < length some
  pub differ : AllPairs (λ f h. f.edges ≢ h.edges) some
  pub sound : (f : Frozen) → Contains some f → IsFrozen s q r k f
