-- Findings of an audit: categories, constraints and edges that say or do nothing.
--     IsFinding            one finding
--     AreFindings          the whole list, in its order
--     TheFindingsAreOne    there is one such list at most
use Rattle.std.specs.Prelude.{◌≡◌, ℕ, zero, suc, List, [], ◌∷◌, Some, remove, slice_get}
use Rattle.olap_base.specs.Graph.{Edge, IsDeclared}
use Rattle.olap_base.specs.Instance.{Instance, IsBelow, IsMemberOf, category_of}
use Rattle.olap_ast.specs.Schema.{Constraint, IsLegal, Meets, Schema}
use Rattle.olap_base.specs.Ranks.{AreExactly}

-- what is found: a category, a constraint counted from 1, or an edge by its place
pub data Finding : Type 0 where
  Unsatisfiable : (category : ℕ) → Finding
  Redundant : (constraint : ℕ) → Finding
  Unused : (edge : ℕ) → Finding

-- the schema without the constraint at this place
abbrev pub without : Schema → ℕ → Schema
without s k = record s { constraints = remove s.constraints k }

-- no legal instance has a member in the category
abbrev pub IsUnsatisfiable : Schema → ℕ → Type 0
IsUnsatisfiable s c = (i : Instance) → IsLegal s i → (x : ℕ) → IsMemberOf i c x → ⊥

-- every legal instance of the schema without the constraint at this place meets it
abbrev pub IsRedundant : Schema → ℕ → Type 0
IsRedundant s k = (c : Constraint) × (slice_get s.constraints k ≡ Some c)
    × ((i : Instance) → IsLegal (without s k) i → Meets i c)

-- in no legal instance a member of the edge's child is below one of its parent
abbrev pub IsUnused : Schema → Edge → Type 0
IsUnused s e =
    (i : Instance) → IsLegal s i → (x y : ℕ) → IsBelow i x y → category_of i x ≡ e.child →
    category_of i y ≡ e.parent → ⊥

-- the finding is true of the schema
abbrev pub IsFinding : Schema → Finding → Type 0
IsFinding s (Unsatisfiable c) = IsDeclared s.graph c × IsUnsatisfiable s c
IsFinding s (Redundant zero) = ⊥
IsFinding s (Redundant (suc k)) = IsRedundant s k
IsFinding s (Unused k) = (e : Edge) × (slice_get s.graph.edges k ≡ Some e) × IsUnused s e

-- the kind's number, and the place
abbrev pub finding_rank : Finding → List ℕ
finding_rank (Unsatisfiable c) = 1 ∷ c ∷ []
finding_rank (Redundant n) = 2 ∷ n ∷ []
finding_rank (Unused k) = 3 ∷ k ∷ []

-- the list has exactly the findings, each once, in their order
abbrev pub AreFindings : Schema → List Finding → Type 0
AreFindings s findings = AreExactly finding_rank (IsFinding s) findings

-- the findings of a schema are one list
abbrev pub TheFindingsAreOne : Type 0
TheFindingsAreOne = (s : Schema) (some others : List Finding) → AreFindings s some → AreFindings s others →
    some ≡ others
