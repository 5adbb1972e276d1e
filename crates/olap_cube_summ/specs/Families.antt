-- The patterns of bottom categories, and the first of them with which a mask is bad.
--     AreOf       a family of each dimension
--     AreFirst    those of the first tuple of bottom categories with which all sources can become bad
--     IsUnion     a set has exactly the patterns of some families
use Rattle.std.specs.Prelude.{◌<◌, ◌↔◌, ℕ, List, [], ◌∷◌, AllPairs, Contains, map}
use Rattle.olap_base.specs.Ranks.{IsNotAfter}
use Rattle.olap_bits.specs.declared.sets.CatSet.{CatSet}
use Rattle.olap_cube_summ.specs.Masks.{CanBeBad, IsIn, all_of}
use Rattle.olap_cube_summ.specs.declared.families.Family.{Family}

-- a family of each dimension
abbrev pub AreOf : List (List Family) → List Family → Type 0
AreOf [] [] = Unit {0}
AreOf (d ∷ ds) (f ∷ fs) = Contains d f × AreOf ds fs
AreOf _ _ = ⊥

-- the set of patterns of each family
abbrev pub patterns_of : List Family → List (CatSet 4)
patterns_of families = map (λ f. f.patterns) families

-- the bottom category of each family
abbrev pub bottoms_of : List Family → List ℕ
bottoms_of families = map (λ f. f.bottom.0) families

-- each bottom category comes before the next
abbrev pub IsOrdered : List Family → Type 0
IsOrdered families = AllPairs (λ f h. f.bottom.0 < h.bottom.0) families

-- all sources can become bad by the patterns of these families
abbrev pub AreBad : ℕ → List Family → Type 0
AreBad n families = CanBeBad n (patterns_of families) (all_of n)

-- a family of each dimension, with which all sources can become bad, and none such comes before by its bottom
-- categories
pub record AreFirst (n : ℕ) (dimensions : List (List Family)) (first : List Family) : Type 0 where
  pub are_of : AreOf dimensions first
  pub are_bad : AreBad n first
  pub least : (other : List Family) → AreOf dimensions other → AreBad n other →
      IsNotAfter (bottoms_of first) (bottoms_of other)

-- the set has exactly the patterns of the families
abbrev pub IsUnion : List Family → CatSet 4 → Type 0
IsUnion families patterns = (p : ℕ) → IsIn patterns p ↔ ((f : Family) × Contains families f × IsIn f.patterns p)

-- dimension by dimension
abbrev pub AreUnions : List (List Family) → List (CatSet 4) → Type 0
AreUnions [] [] = Unit {0}
AreUnions (d ∷ ds) (s ∷ ss) = IsUnion d s × AreUnions ds ss
AreUnions _ _ = ⊥
