-- The slots of categories: which cells the rows of a category's members have.
--     no_slot     what stands for a category that isn't reached
--     slot_of     the slot of a category among those that another one reaches
--     order_of    the category in a slot
--     count_of    how many categories one reaches
--     IsOrdered   this many categories stand in slots, each in its own
--     IsSlots     for each category those that stand in its slots
use Rattle.std.specs.Prelude.{◌≡◌, ◌≢◌, ℕ, ◌+◌, ◌*◌, ◌<◌, ◌≤◌, List, length, slice_index}
use Rattle.olap_base.specs.Graph.{Graph, CategoryReaches}
use Rattle.olap_base.specs.Limits.{most_categories}
use Rattle.olap_legal.specs.declared.slots.Slots.{Slots}

-- the number that stands for no slot
abbrev pub no_slot : ℕ
no_slot = 65535

-- the place in row c and column d, with n columns
abbrev pub place : ℕ → List ℕ → ℕ → ℕ → ℕ
place n list c d = slice_index list (c * n + d)

-- the slot of d among the categories that c reaches
abbrev pub slot_of : ℕ → Slots → ℕ → ℕ → ℕ
slot_of n s c d = place n s.slots.items c d

-- the category in that slot of c's
abbrev pub order_of : ℕ → Slots → ℕ → ℕ → ℕ
order_of n s c k = place n s.order.items c k

-- how many categories c reaches
abbrev pub count_of : Slots → ℕ → ℕ
count_of s c = slice_index s.counts.items c

-- this many of n categories stand in slots, each in its own
pub record IsOrdered (n count : ℕ) (slot order : ℕ → ℕ) : Type 0 where
  pub few : count ≤ n
  pub listed : (d : ℕ) → d < n → slot d ≢ no_slot → (slot d < count) × (order (slot d) ≡ d)
  pub placed : (k : ℕ) → k < count → (order k < n) × (slot (order k) ≡ k)

-- for each of n categories those that stand in its slots
pub record IsSlots (n : ℕ) (s : Slots) : Type 0 where
  pub few : n ≤ most_categories
  pub slots : length s.slots.items ≡ n * n
  pub order : length s.order.items ≡ n * n
  pub counts : length s.counts.items ≡ n
  pub ordered : (c : ℕ) → c < n → IsOrdered n (count_of s c) (slot_of n s c) (order_of n s c)

-- ---- inside the making

-- of the categories below d those that c reaches have slots, from the base on, and nothing stands after
pub record IsListing (g : Graph) (c n d count base : ℕ) (slots order : List ℕ) : Type 0 where
  pub few : count ≤ d
  pub listed : (e : ℕ) → e < n → slice_index slots (base + e) ≢ no_slot
      → (slice_index slots (base + e) < count) × (slice_index order (base + slice_index slots (base + e)) ≡ e)
  pub placed : (k : ℕ) → k < count → (slice_index order (base + k) < d)
      × (slice_index slots (base + slice_index order (base + k)) ≡ k)
  pub reached : (e : ℕ) → e < d → CategoryReaches g c e → slice_index slots (base + e) ≢ no_slot
  pub behind : (k : ℕ) → base + d ≤ k → k < length slots → slice_index slots k ≡ no_slot

-- the first c of n categories have slots for what they reach, and nothing stands after
pub record AreListed (g : Graph) (n c : ℕ) (slots order counts : List ℕ) : Type 0 where
  pub slots_size : length slots ≡ n * n
  pub order_size : length order ≡ n * n
  pub counts_size : length counts ≡ c
  pub ordered : (b : ℕ) → b < c → IsOrdered n (slice_index counts b) (place n slots b) (place n order b)
  pub reached : (b e : ℕ) → b < c → e < n → CategoryReaches g b e → place n slots b e ≢ no_slot
  pub behind : (k : ℕ) → c * n ≤ k → k < length slots → slice_index slots k ≡ no_slot
