-- For one category the member that each member reaches.
--     Ascent       an instance and a category
--     Tells        what a cell says of a member
--     AreColumns   a column for each category
use Rattle.std.specs.Prelude.{◌≡◌, ◌≢◌, ℕ, ◌<◌, List, length, slice_index, slice_index_or}
use Rattle.olap_base.specs.Instance.{Instance, ReachesCategory}
use Rattle.olap_legal.specs.Ancestors.{IsAncestor}

-- the way up from the members of an instance to a category
pub record Ascent : Type 0 where
  pub instance : Instance
  pub category : ℕ

abbrev pub ascent : Instance → ℕ → Ascent
ascent i c = record { instance = i; category = c }

-- the number that stands for no member of the category
abbrev pub nobody : ℕ
nobody = 0xFFFF_FFFF

-- the cell has the member of c that x reaches, or `nobody` if there is none
pub record Tells (i : Instance) (c x cell : ℕ) : Type 0 where
  pub some : cell ≢ nobody → IsAncestor i x c cell
  pub none : cell ≡ nobody → ReachesCategory i x c → ⊥

-- the cells of the first n members
pub record IsTold (i : Instance) (c n : ℕ) (cells : List ℕ) : Type 0 where
  pub size : length cells ≡ n
  pub each : (x : ℕ) → x < n → Tells i c x (slice_index cells x)

-- the k-th column is that of the k-th category
pub record AreColumns (i : Instance) (categories : List ℕ) (columns : List Ascent) : Type 0 where
  pub size : length columns ≡ length categories
  pub each : (k : ℕ) (d : Ascent) → k < length categories
      → slice_index_or columns k d ≡ ascent i (slice_index categories k)
