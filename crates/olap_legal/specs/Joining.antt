-- Rows of the table of ancestors that are made of the parents' rows.
--     IsEither    what stands in either of two places
--     IsJoin      a row with what stands in either of two
--     AreJoined   a row with what these parents reach
--     HasRow      the table has a member's row
--     AreRows     a member that stands in its own place has its row
--     AreMembers  these are members
--     left        what the walk has left to do
use Rattle.std.specs.Prelude.{◌≡◌, ◌≢◌, ℕ, ◌+◌, ◌*◌, ◌<◌, ◌⊎◌, ◌↔◌, Bool, List, length, slice_index, Contains}
use Rattle.olap_base.specs.Instance.{Instance, Reaches, category_of}
use Rattle.olap_graph.specs.Marking.{unmarked_count}
use Rattle.olap_legal.specs.Laying.{IsLaid, cell}
use Rattle.olap_legal.specs.Rows.{none, IsIn, IsRise, IsRow}
use Rattle.olap_legal.specs.declared.tables.Table.{Table}

-- a member stands here exactly if it is one of the two
abbrev pub IsEither : ℕ → ℕ → ℕ → Type 0
IsEither one other here = (y : ℕ) → y ≢ none → (here ≡ y) ↔ ((one ≡ y) ⊎ (other ≡ y))

-- at each place stands what stands there in one of the two rows
pub record IsJoin (one other row : List ℕ) : Type 0 where
  pub same_length : length row ≡ length one
  pub exact : (d : ℕ) → d < length one → IsEither (slice_index one d) (slice_index other d) (slice_index row d)

-- exactly the members that these parents reach have their places
pub record AreJoined (i : Instance) (parents row : List ℕ) : Type 0 where
  pub own : IsRow i row
  pub exact : (y : ℕ) → y < length i → IsIn i row y ↔ ((p : ℕ) × Contains parents p × Reaches i p y)

-- the row of x stands in the table
pub record HasRow (i : Instance) (n x : ℕ) (t : Table) : Type 0 where
  pub row : List ℕ
  pub rise : IsRise i n x row
  pub stands : (d : ℕ) → d < n → cell i n t x d ≡ slice_index row d

-- a member stands in its own place
abbrev pub IsPlaced : Instance → ℕ → Table → ℕ → Type 0
IsPlaced i n t x = cell i n t x (category_of i x) ≢ none

-- the table has a row for each member, and those that stand in their own places have theirs
pub record AreRows (i : Instance) (n : ℕ) (t : Table) : Type 0 where
  pub laid : IsLaid i n t
  pub each : (x : ℕ) → x < length i → IsPlaced i n t x → HasRow i n x t

-- ---- inside the walk

-- these are members
pub record AreMembers (i : Instance) (list : List ℕ) : Type 0 where
  pub each : (y : ℕ) → Contains list y → y < length i

-- a member is listed when it is marked, and twice at most
abbrev pub left : List Bool → List ℕ → ℕ
left marks list = 2 * unmarked_count marks + length list
