-- Constraints that aren't met.
--     IsFirstUnmet      the first member of a root at which a formula is false
--     IsFirstViolated   the first constraint that isn't met, and the first member at which it isn't
use Rattle.std.specs.Prelude.{ℕ, ◌<◌, List, length, slice_index_or}
use Rattle.olap_ast.specs.Formula.{Formula, Formula.Truth, Holds}
use Rattle.olap_ast.specs.Schema.{Constraint, Meets}
use Rattle.olap_base.specs.Instance.{Instance, IsMemberOf}

-- x is the first member of the root at which the formula is false
pub record IsFirstUnmet (i : Instance) (root : ℕ) (f : Formula) (x : ℕ) : Type 0 where
  pub is_member : IsMemberOf i root x
  pub unmet : Holds i x f → ⊥
  pub before : (w : ℕ) → w < x → IsMemberOf i root w → Holds i w f

-- what stands past the end of a list of constraints
abbrev pub no_constraint : Constraint
no_constraint = record { root = 0; formula = Truth }

-- the k-th of the constraints
abbrev pub constraint_at : List Constraint → ℕ → Constraint
constraint_at constraints k = slice_index_or constraints k no_constraint

-- the k-th constraint is the first that isn't met, and x the first member at which it isn't
pub record IsFirstViolated (i : Instance) (constraints : List Constraint) (k x : ℕ) : Type 0 where
  pub inside : k < length constraints
  pub here : IsFirstUnmet i (constraint_at constraints k).root (constraint_at constraints k).formula x
  pub before : (j : ℕ) → j < k → Meets i (constraint_at constraints j)
