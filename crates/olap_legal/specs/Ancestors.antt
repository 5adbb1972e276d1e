-- The ancestor of a member in a category.
use Rattle.std.specs.Prelude.{◌≡◌, ℕ}
use Rattle.olap_base.specs.Instance.{Instance, IsMemberOf, Reaches}

-- y is the one member of the category that x reaches
pub record IsAncestor (i : Instance) (x c y : ℕ) : Type 0 where
  pub is_member : IsMemberOf i c y
  pub reached : Reaches i x y
  pub only : (w : ℕ) → IsMemberOf i c w → Reaches i x w → w ≡ y
