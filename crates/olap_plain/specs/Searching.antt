-- The loops over edges and names, and what they have found.
--     AreFirstNames    with these edges, the names are the first that give a frozen dimension
--     NoneWith         no frozen dimension has these edges
use Rattle.std.specs.Prelude.{◌≡◌, ℕ, List, Bool, map, if◌then◌else◌}
use Rattle.olap_ast.specs.Formula.{Formula}
use Rattle.olap_ast.specs.Schema.{Schema}
use Rattle.olap_ast.specs.Frozen.{Candidates, Frozen, IsFrozen}
use Rattle.olap_base.specs.Ranks.{IsNotAfter}
use Rattle.olap_frozen.specs.Leaves.{chosen_of, of_declared}

-- the edges as a code: 1 for a chosen one
abbrev pub code_of : List Bool → List ℕ
code_of edges = map (λ b. if b then 1 else 0) edges

pub record AreFirstNames (s : Schema) (q : Formula) (r : ℕ) (k : Candidates) (edges : List Bool) (names : List ℕ)
    : Type 0 where
  pub is_one : IsFrozen s q r k (chosen_of edges names)
  pub least : (h : Frozen) → h.edges ≡ edges → IsFrozen s q r k h → IsNotAfter (of_declared names) h.names

abbrev pub NoneWith : Schema → Formula → ℕ → Candidates → List Bool → Type 0
NoneWith s q r k edges = (h : Frozen) → h.edges ≡ edges → IsFrozen s q r k h → ⊥
