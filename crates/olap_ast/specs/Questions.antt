-- The questions about all legal instances, of any size, and what they are by frozen dimensions.
--     IsImplied     every legal instance meets a constraint
--     NoneFrozen    no frozen dimension with this root makes the question true
--     ValidSchemasHaveCandidates, SourcesHaveCandidates    each question of a valid schema has candidates
use Rattle.std.specs.Prelude.{◌≡◌, ◌↔◌, ℕ, List, [], ◌∷◌, Some, slice_get}
use Rattle.olap_base.specs.Graph.{Edge, IsHierarchy}
use Rattle.olap_base.specs.Instance.{Instance}
use Rattle.olap_ast.specs.Formula.{Formula, Formula.Truth, Formula.Path, Formula.Not}
use Rattle.olap_ast.specs.Schema.{Constraint, IsLegal, Meets, Schema}
use Rattle.olap_ast.specs.Frozen.{AreCandidates, Candidates, Frozen, IsFrozen}
use Rattle.olap_ast.specs.Summarizable.{not_by_one}
use Rattle.olap_ast.specs.Valid.{IsFormulaAt, IsValidSchema}
use Rattle.olap_ast.specs.Findings.{IsRedundant, IsUnsatisfiable, IsUnused, without}

-- every legal instance meets the constraint of this root and formula
abbrev pub IsImplied : Schema → ℕ → Formula → Type 0
IsImplied s r f = (i : Instance) → IsLegal s i → Meets i (record { root = r; formula = f })

-- no frozen dimension with this root makes the question true
abbrev pub NoneFrozen : Schema → Formula → ℕ → Candidates → Type 0
NoneFrozen s q r k = (f : Frozen) → IsFrozen s q r k f → ⊥

-- a valid schema and a formula of its graph have candidates
abbrev pub ValidSchemasHaveCandidates : Type 0
ValidSchemasHaveCandidates = (s : Schema) (r : ℕ) (q : Formula) → IsValidSchema s → IsFormulaAt s.graph r q →
    (k : Candidates) × AreCandidates s q k

-- a valid schema and the question of summarizability have candidates
abbrev pub SourcesHaveCandidates : Type 0
SourcesHaveCandidates = (s : Schema) (c : ℕ) (sources : List ℕ) → IsValidSchema s →
    (k : Candidates) × AreCandidates s (not_by_one c sources) k

-- a category is unsatisfiable exactly if it is the root of no frozen dimension
abbrev pub UnsatisfiableExactlyIfNoneFrozen : Type 0
UnsatisfiableExactlyIfNoneFrozen = (s : Schema) (c : ℕ) (k : Candidates) → IsHierarchy s.graph →
    AreCandidates s Truth k → IsUnsatisfiable s c ↔ NoneFrozen s Truth c k

-- a constraint is implied exactly if no frozen dimension with its root makes its formula false
abbrev pub ImpliedExactlyIfNoneFrozen : Type 0
ImpliedExactlyIfNoneFrozen = (s : Schema) (r : ℕ) (q : Formula) (k : Candidates) → IsHierarchy s.graph →
    AreCandidates s (Not q) k → IsImplied s r q ↔ NoneFrozen s (Not q) r k

-- a constraint is redundant exactly if no frozen dimension of the schema without it makes its formula false
abbrev pub RedundantExactlyIfNoneFrozen : Type 0
RedundantExactlyIfNoneFrozen = (s : Schema) (j : ℕ) (c : Constraint) (k : Candidates) → IsHierarchy s.graph →
    slice_get s.constraints j ≡ Some c → AreCandidates (without s j) (Not c.formula) k →
    IsRedundant s j ↔ NoneFrozen (without s j) (Not c.formula) c.root k

-- an edge is unused exactly if no frozen dimension with its child as root has it
abbrev pub UnusedExactlyIfNoneFrozen : Type 0
UnusedExactlyIfNoneFrozen = (s : Schema) (e : Edge) (k : Candidates) → IsHierarchy s.graph →
    AreCandidates s (Path (e.parent ∷ [])) k → IsUnused s e ↔ NoneFrozen s (Path (e.parent ∷ [])) e.child k
