-- Sets of places of a list of members, at which something is so.
--     width              how many places a block has
--     Selects            of the first places a set has exactly those at which it is so
--     Collects           a set has exactly those of the first places at which it is so
--     IsPart             these members of a category are those of a block
--     IsBlock            that, with the table of the instance
--     IsFirstUnmetFrom   the first member, from the start-th on, at which a formula is false
use Rattle.std.specs.Prelude.{◌≡◌, ℕ, ◌+◌, ◌<◌, ◌≤◌, ◌↔◌, List, length, slice_index, true}
use Rattle.std.specs.FinSet.{FinSet, contains}
use Rattle.std.specs.Ordering.{nat_cmp}
use Rattle.olap_ast.specs.Formula.{Formula, Holds}
use Rattle.olap_base.specs.Instance.{Instance, IsMemberOf}
use Rattle.olap_check.specs.Groups.{IsNth, count_before}
use Rattle.olap_legal.specs.Tables.{HasTable}
use Rattle.olap_legal.specs.declared.tables.Table.{Table}

-- how many places a block has: sixteen words of bits
abbrev pub width : ℕ
width = 1024

-- among the places before n the set has exactly those at which P holds; others are left open
abbrev pub Selects : ℕ → (ℕ → Type 0) → FinSet nat_cmp → Type 0
Selects n P chosen = (k : ℕ) → k < n → (contains chosen k ≡ true) ↔ P k

-- the set has exactly the places before n at which P is so
abbrev pub Collects : ℕ → (ℕ → Type 0) → FinSet nat_cmp → Type 0
Collects n P set = (k : ℕ) → (contains set k ≡ true) ↔ ((k < n) × P k)

-- the members of the category from the start-th on, a block's width of them or as many as there are
pub record IsPart (i : Instance) (c start : ℕ) (part : List ℕ) : Type 0 where
  pub few : length part ≤ width
  pub each : (k : ℕ) → k < length part → IsNth i c (start + k) (slice_index part k)
  pub whole : (k x : ℕ) → k < width → IsNth i c (start + k) x → k < length part

-- the table is that of the instance, and the part is one of the root's members
pub record IsBlock (i : Instance) (n : ℕ) (t : Table) (root start : ℕ) (part : List ℕ) (all : FinSet nat_cmp)
    : Type 0 where
  pub has_table : HasTable i n t
  pub is_part : IsPart i root start part
  pub all_places : Collects width (λ k. Unit {0}) all

-- x is the first member of the root, from the start-th on, at which the formula is false
pub record IsFirstUnmetFrom (i : Instance) (root : ℕ) (f : Formula) (start x : ℕ) : Type 0 where
  pub is_member : IsMemberOf i root x
  pub unmet : Holds i x f → ⊥
  pub before : (w : ℕ) → start ≤ count_before i root w → w < x → IsMemberOf i root w → Holds i w f
