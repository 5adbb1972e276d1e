-- The counterexample by its codes, dimension by dimension.
--     AreNotAfter       lists of codes in their order
--     IsLeastChoice     the bad choice of the first bottom categories whose codes are least
use Rattle.std.specs.Prelude.{◌≡◌, ℕ, List, [], ◌∷◌, map}
use Rattle.olap_ast.specs.Frozen.{code}
use Rattle.olap_ast.specs.Schema.{Schema}
use Rattle.olap_base.specs.Ranks.{IsNotAfter}
use Rattle.olap_cube.specs.CubeSummarizable.{Chosen, IsBadChoice, bottoms_of}

-- the codes, in order
abbrev pub codes_of : List Chosen → List (List ℕ)
codes_of choice = map (λ p. code p.frozen) choice

-- the first list of codes comes before the second, or is equal, in lexicographic order
abbrev pub AreNotAfter : List (List ℕ) → List (List ℕ) → Type 0
AreNotAfter [] ys = Unit {0}
AreNotAfter (x ∷ xs) [] = ⊥
AreNotAfter (x ∷ xs) (y ∷ ys) = IsNotAfter x y × (x ≡ y → AreNotAfter xs ys)

-- of the first tuple of bottom categories that has a bad choice, the bad choice whose list of codes is least
pub record IsLeastChoice (schemas : List Schema) (c : List ℕ) (sources : List (List ℕ)) (choice : List Chosen) :
    Type 0 where
  pub is_bad : IsBadChoice schemas c sources choice
  pub first : (other : List Chosen) → IsBadChoice schemas c sources other →
      IsNotAfter (bottoms_of choice) (bottoms_of other)
  pub least : (other : List Chosen) → IsBadChoice schemas c sources other → bottoms_of other ≡ bottoms_of choice →
      AreNotAfter (codes_of choice) (codes_of other)
