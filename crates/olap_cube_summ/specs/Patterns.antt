-- The patterns of frozen dimensions.
--     HasPattern     a frozen dimension's root reaches the target by way of these sources
--     IsKnown        by one of the patterns of a set
--     AreFound       each pattern of a set is that of a frozen dimension
--     IsFamily       a set has the patterns of all frozen dimensions of a bottom category
--     AreFamilies    a family of each bottom category
use Rattle.std.specs.Prelude.{◌≡◌, ◌<◌, ◌^◌, ℕ, List, Contains}
use Rattle.olap_ast.specs.Frozen.{code, thawed}
use Rattle.olap_ast.specs.Schema.{Schema}
use Rattle.olap_base.specs.Ranks.{IsNotAfter}
use Rattle.olap_base.specs.Graph.{IsBottom}
use Rattle.olap_base.specs.Instance.{Instance, IsMemberOf}
use Rattle.olap_base.specs.Limits.{most_views}
use Rattle.olap_bits.specs.declared.sets.CatSet.{CatSet}
use Rattle.olap_cube.specs.CubeSummarizable.{Chosen, IsChosen}
use Rattle.olap_cube_summ.specs.Found.{chosen_of}
use Rattle.olap_frozen.specs.declared.founding.Found.{Found}
use Rattle.olap_frozen.specs.declared.frozen.Frozen as kept
use Rattle.olap_frozen.specs.Leaves.{IsSized, IsZeroAtAll}
use Rattle.olap_names.specs.Names.{Named}
use Rattle.olap_cube_summ.specs.Families.{IsOrdered}
use Rattle.olap_cube_summ.specs.Masks.{IsIn}
use Rattle.olap_cube_summ.specs.Ways.{HasWays}
use Rattle.olap_cube_summ.specs.declared.families.Family.{Family}
use Rattle.olap_cube_summ.specs.Questions.{sources_in, target_in}
use Rattle.olap_cube_summ.specs.declared.questions.Question.{Question}

-- the instance that it stands for
abbrev pub shape_of : Schema → Chosen → Instance
shape_of s h = thawed s h.candidates h.bottom h.frozen

-- its root reaches the target by way of exactly the sources whose bits are in the pattern
abbrev pub HasPattern : Schema → Question → Chosen → ℕ → Type 0
HasPattern s q h p = (x : ℕ) → IsMemberOf (shape_of s h) h.bottom x
    → HasWays (shape_of s h) x (target_in q) (sources_in q) p

-- by one of the patterns
abbrev pub IsKnown : Schema → Question → CatSet 4 → Chosen → Type 0
IsKnown s q patterns h = (p : ℕ) × IsIn patterns p × HasPattern s q h p

-- ---- what searches find

-- a frozen dimension with the names that its indexes stand for
abbrev pub named_by : Named → kept.Frozen → Found
named_by named f = record { frozen = f; candidates = named }

-- a frozen dimension with its names, at a bottom category, whose root reaches c
pub record IsFoundFor (s : Schema) (c : ℕ) (found : Found) : Type 0 where
  pub chosen : IsChosen s c (chosen_of found)
  pub sized : IsSized s.graph found.candidates found.frozen.edges found.frozen.names
  pub zero : IsZeroAtAll found.frozen.names

-- one of the bottom category b, and by none of the patterns
pub record IsOther (s : Schema) (q : Question) (b : ℕ) (patterns : CatSet 4) (found : Found) : Type 0 where
  pub root : found.frozen.root.0 ≡ b
  pub is_found : IsFoundFor s (target_in q) found
  pub new : IsKnown s q patterns (chosen_of found) → ⊥

-- each frozen dimension of the bottom category b whose root reaches the target does so by one of the patterns
abbrev pub AreAllKnown : Schema → Question → ℕ → CatSet 4 → Type 0
AreAllKnown s q b patterns = (h : Chosen) → IsChosen s (target_in q) h → h.bottom ≡ b → IsKnown s q patterns h

-- some do
abbrev pub SomeIsKnown : Schema → Question → ℕ → CatSet 4 → Type 0
SomeIsKnown s q b patterns = (h : Chosen) × IsChosen s (target_in q) h × (h.bottom ≡ b) × IsKnown s q patterns h

-- the least of those
pub record IsLeastKnown (s : Schema) (q : Question) (b : ℕ) (patterns : CatSet 4) (found : Found) : Type 0 where
  pub root : found.frozen.root.0 ≡ b
  pub is_found : IsFoundFor s (target_in q) found
  pub known : IsKnown s q patterns (chosen_of found)
  pub least : (h : Chosen) → IsChosen s (target_in q) h → h.bottom ≡ b → IsKnown s q patterns h →
      IsNotAfter (code (chosen_of found).frozen) (code h.frozen)

-- ---- patterns

-- a frozen dimension of the bottom category b has the pattern p
abbrev pub IsPatternOf : Schema → Question → ℕ → ℕ → Type 0
IsPatternOf s q b p = (h : Chosen) × IsChosen s (target_in q) h × (h.bottom ≡ b) × HasPattern s q h p

-- and p is a mask over as many sources as there may be
abbrev pub IsSmallPatternOf : Schema → Question → ℕ → ℕ → Type 0
IsSmallPatternOf s q b p = (p < 2 ^ most_views) × IsPatternOf s q b p

-- each of the set is a pattern of one
abbrev pub AreFound : Schema → Question → ℕ → CatSet 4 → Type 0
AreFound s q b patterns = (p : ℕ) → IsIn patterns p → IsPatternOf s q b p

-- ---- families

-- the patterns of the frozen dimensions of the bottom category whose roots reach the target, and no others
pub record IsFamily (s : Schema) (q : Question) (f : Family) : Type 0 where
  pub bottom : IsBottom s.graph f.bottom.0
  pub sound : AreFound s q f.bottom.0 f.patterns
  pub complete : AreAllKnown s q f.bottom.0 f.patterns

-- a family of each bottom category, in declaration order
pub record AreFamilies (s : Schema) (q : Question) (families : List Family) : Type 0 where
  pub each : (f : Family) → Contains families f → IsFamily s q f
  pub ordered : IsOrdered families
  pub all : (b : ℕ) → IsBottom s.graph b → (f : Family) × Contains families f × (f.bottom.0 ≡ b)
