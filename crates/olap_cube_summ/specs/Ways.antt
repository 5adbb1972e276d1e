-- By way of which sources a member reaches a target, as patterns and as formulas.
--     HasWays        by way of exactly the sources whose bits are in a pattern
--     HasWaysIn      of one of the patterns of a set
--     IsAboutWays    a formula without names and numbers says that
use Rattle.std.specs.Prelude.{◌≡◌, ◌<◌, ◌↔◌, ℕ, List, [], Bool, true, false, All, length, map, slice_index}
use Rattle.olap_ast.specs.Atoms.{comparisons, equalities}
use Rattle.olap_ast.specs.Formula.{Formula, Formula.Not, Formula.Via, Holds}
use Rattle.olap_ast.specs.Valid.{IsFormulaAt}
use Rattle.olap_base.specs.Graph.{Graph, IsCategory}
use Rattle.olap_base.specs.Instance.{Instance, ReachesCategory, ReachesVia}
use Rattle.olap_base.specs.declared.ids.CatId.{CatId}
use Rattle.olap_bits.specs.declared.sets.CatSet.{CatSet}
use Rattle.olap_cube_summ.specs.Masks.{Has, IsIn}

-- of the first n sources x reaches c by way of exactly those whose bits are in the pattern
abbrev pub HasWaysTo : ℕ → Instance → ℕ → ℕ → List ℕ → ℕ → Type 0
HasWaysTo n i x c column p = (k : ℕ) → k < n → Has p k ↔ ReachesVia i x (slice_index column k) c

-- of all sources
abbrev pub HasWays : Instance → ℕ → ℕ → List ℕ → ℕ → Type 0
HasWays i x c column p = HasWaysTo (length column) i x c column p

-- by way of exactly those of one of the patterns
abbrev pub HasWaysIn : Instance → ℕ → ℕ → List ℕ → CatSet 4 → Type 0
HasWaysIn i x c column patterns = (p : ℕ) × IsIn patterns p × HasWays i x c column p

-- x reaches c, and by one of the patterns
abbrev pub IsInside : ℕ → List ℕ → CatSet 4 → Instance → ℕ → Type 0
IsInside c column patterns i x = ReachesCategory i x c × HasWaysIn i x c column patterns

-- x reaches c, and by none of them
abbrev pub IsOutside : ℕ → List ℕ → CatSet 4 → Instance → ℕ → Type 0
IsOutside c column patterns i x = ReachesCategory i x c × (HasWaysIn i x c column patterns → ⊥)

-- the formula has no names and no numbers, is one of each graph that has the categories, and says so
pub record IsAboutWays (c : ℕ) (column : List ℕ) (P : Instance → ℕ → Type 0) (f : Formula) : Type 0 where
  pub free : equalities f ≡ []
  pub numberless : comparisons f ≡ []
  pub at : (g : Graph) (b : ℕ) → IsCategory g c → All (IsCategory g) column → IsFormulaAt g b f
  pub means : (i : Instance) (x : ℕ) → Holds i x f ↔ P i x

-- the target is reached by way of the source, or isn't
abbrev pub way_of : ℕ → ℕ → Bool → Formula
way_of c s true = Via s c
way_of c s false = Not (Via s c)
