-- Where the cells of the table of ancestors stand.
--     cell          what stands in the table for a member and a category
--     IsLaid        the table has a row for each member, with a cell for each category that the member can reach
--     AreStarts     where the rows begin, one after the other
--     AreDistinct   no number stands twice
use Rattle.std.specs.Prelude.{◌≡◌, ◌≢◌, ℕ, ◌+◌, ◌<◌, ◌≤◌, ◌*◌, ◌==◌, List, cond, length, slice_index}
use Rattle.olap_base.specs.Instance.{Instance, Reaches, category_of}
use Rattle.olap_legal.specs.Rows.{none}
use Rattle.olap_legal.specs.Slots.{IsSlots, count_of, no_slot, slot_of}
use Rattle.olap_legal.specs.declared.slots.Slots.{Slots}
use Rattle.olap_legal.specs.declared.tables.Table.{Table}

-- what stands in a slot of the row that begins there, if it is one
abbrev pub cell_in : List ℕ → ℕ → ℕ → ℕ
cell_in cells start slot = cond (slot == no_slot) none (slice_index cells (start + slot))

-- what stands for member x and category d, with n categories
unfoldable pub cell : Instance → ℕ → Table → ℕ → ℕ → ℕ
cell i n t x d = cell_in t.cells.items (slice_index t.starts.items x) (slot_of n t.slots (category_of i x) d)

-- the rows of the first m members, each after the one before it, up to an end
pub record AreStarts (i : Instance) (s : Slots) (m : ℕ) (starts : List ℕ) (end : ℕ) : Type 0 where
  pub size : length starts ≡ m
  pub room : (x : ℕ) → x < m → slice_index starts x + count_of s (category_of i x) ≤ end
  pub apart : (x z : ℕ) → x < z → z < m
      → slice_index starts x + count_of s (category_of i x) ≤ slice_index starts z
  pub few : end ≤ 256 * m

-- each member has a row apart from the others, and in it a cell for each category of which it reaches a member
pub record IsLaid (i : Instance) (n : ℕ) (t : Table) : Type 0 where
  pub categories : (x : ℕ) → x < length i → category_of i x < n
  pub slots : IsSlots n t.slots
  pub starts : AreStarts i t.slots (length i) t.starts.items (length t.cells.items)
  pub reached : (x y : ℕ) → x < length i → Reaches i x y
      → slot_of n t.slots (category_of i x) (category_of i y) ≢ no_slot

-- no number stands twice
abbrev pub AreDistinct : List ℕ → Type 0
AreDistinct xs = (j k : ℕ) → j < length xs → k < length xs → slice_index xs j ≡ slice_index xs k → j ≡ k
