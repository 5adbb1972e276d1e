-- The masks that may still serve, and the cheapest of them.
--     MayServe      no counterexample has refuted the mask
--     IsCheapest    the cheapest of the first n masks that may serve, or there is none
use Rattle.std.specs.Prelude.{◌≡◌, ◌<◌, ℕ, List, Bool, true, false, Option, None, Some, slice_index_or}
use Rattle.olap_base.specs.Views.{View}
use Rattle.olap_nav.specs.Plans.{IsNoDearer, rows_in}
use Rattle.olap_nav.specs.declared.choice.Plan.{Plan}

-- the mask is marked
abbrev pub MayServe : List Bool → ℕ → Type 0
MayServe marks m = slice_index_or marks m false ≡ true

-- the plan's mask may serve, it has the plan's rows, and none of the first n that may serve is cheaper
pub record IsCheapestOf (views : List (View ℕ ℕ)) (marks : List Bool) (n : ℕ) (p : Plan) : Type 0 where
  pub before : p.mask < n
  pub may_serve : MayServe marks p.mask
  pub rows : p.rows ≡ rows_in views p.mask
  pub cheapest : (m : ℕ) → m < n → MayServe marks m → IsNoDearer views p.mask m

-- the cheapest of the first n masks that may serve, or there is none
abbrev pub IsCheapest : List (View ℕ ℕ) → List Bool → ℕ → Option Plan → Type 0
IsCheapest views marks n None = (m : ℕ) → m < n → MayServe marks m → ⊥
IsCheapest views marks n (Some p) = IsCheapestOf views marks n p
