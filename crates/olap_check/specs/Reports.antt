-- How a violation is reported by ids, and what a refused check says.
--     told            a violation of the definitions, as the program reports it
--     IsFirstReport   it tells the first violation
--     IsFirstBreach   the same, whatever the constraints are
--     IsRefused       the instance is handed back, with the first violation, or memory ran out
use Rattle.std.specs.Prelude.{◌≡◌, ℕ, suc, List, map, slice_index}
use Rattle.olap_ast.specs.Schema.{Constraint, Schema}
use Rattle.olap_ast.specs.Trees.{constraint_of}
use Rattle.olap_ast.specs.Violation as Meaning
use Rattle.olap_ast.specs.declared.formulas.Constraint.{Constraint as Stored}
use Rattle.olap_base.specs.Graph.{Graph}
use Rattle.olap_base.specs.Instance.{Instance, parents_of}
use Rattle.olap_base.specs.declared.ids.CatId.{CatId}
use Rattle.olap_base.specs.declared.ids.MemberId.{MemberId}
use Rattle.olap_base.specs.Refusing.{IsFor}
use Rattle.olap_base.specs.declared.refusals.Refusal.{Refusal}
use Rattle.olap_check.specs.declared.violations.Illegal.{Illegal}
use Rattle.olap_check.specs.declared.violations.Violation.{Violation}
use Rattle.olap_check.specs.declared.violations.Violation.TheVariants as here

-- the schema of a graph and stored constraints
abbrev pub parts_of : Graph → List Stored → Schema
parts_of g constraints = record { graph = g; constraints = map constraint_of constraints }

-- the id of a place
abbrev pub member : ℕ → MemberId
member x = record { 0 = x }

-- the id of a category
abbrev pub category : ℕ → CatId
category c = record { 0 = c }

-- the k-th parent of x
abbrev pub parent : Instance → ℕ → ℕ → MemberId
parent i x k = member (slice_index (parents_of i x) k)

-- a parent is named by its id, and a constraint is counted from 1
abbrev pub told : Instance → Meaning.Violation → Violation
told i (Meaning.Violation.NoEdge x k) = here.Connectivity (member x) (parent i x k)
told i (Meaning.Violation.NoParent x) = here.NoParent (member x)
told i (Meaning.Violation.SameCategory x) = here.Stratification (member x)
told i (Meaning.Violation.TwoAncestors x c) = here.Partitioning (member x) (category c)
told i (Meaning.Violation.Shortcut x k) = here.Shortcut (member x) (parent i x k)
told i (Meaning.Violation.Unmet k x) = here.Constraint (suc k) (member x)

-- it tells the first violation
pub record IsFirstReport (s : Schema) (i : Instance) (v : Violation) : Type 0 where
  pub violation : Meaning.Violation
  pub is_first : Meaning.IsFirstViolation s i violation
  pub is_told : v ≡ told i violation

-- it tells the first violation of the laws, whatever the constraints are
abbrev pub IsFirstBreach : Graph → Instance → Violation → Type 0
IsFirstBreach g i v = (constraints : List Constraint)
    → IsFirstReport (record { graph = g; constraints = constraints }) i v

-- the instance is handed back, with its first violation, or memory ran out
abbrev pub IsRefused : Schema → Instance → Refusal Illegal → Type 0
IsRefused s i = IsFor (λ back. (back.instance ≡ i) × IsFirstReport s i back.violation)
