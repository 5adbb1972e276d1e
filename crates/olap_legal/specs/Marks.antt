-- Members that are marked and listed on a walk upwards, and a category whose members stop it.
--     IsPassed     a member is marked, and not of the category
--     IsMarking    parents are marked, and those that were not marked before are listed
--     Hits         one of the parents is of the category
--     MarkGives    what marking the parents of a member answers
use Rattle.std.specs.Prelude.{◌≡◌, ◌≢◌, ℕ, ◌+◌, ◌≤◌, ◌⊎◌, List, Bool, true, false, length, Contains}
use Rattle.olap_base.specs.Instance.{Instance, category_of}
use Rattle.olap_graph.specs.Marking.{unmarked_count}
use Rattle.olap_graph.specs.Tables.{IsMarked}

-- y is not of the category, and marked
abbrev pub IsPassed : Instance → ℕ → List Bool → ℕ → Type 0
IsPassed i c marks y = (category_of i y ≢ c) × IsMarked marks y

-- the parents are passed, and those that were not marked before are listed
pub record IsMarking (i : Instance) (c : ℕ) (parents : List ℕ) (before after : List Bool)
    (old new : List ℕ) : Type 0 where
  pub same_length : length after ≡ length before
  pub kept : (y : ℕ) → IsMarked before y → IsMarked after y
  pub done : (y : ℕ) → Contains parents y → IsPassed i c after y
  pub fresh : (y : ℕ) → IsMarked after y → IsMarked before y ⊎ (Contains parents y × Contains new y)
  pub listed : (y : ℕ) → Contains old y → Contains new y
  pub only : (y : ℕ) → Contains new y → Contains old y ⊎ Contains parents y
  pub fewer : unmarked_count after + length new ≤ unmarked_count before + length old

-- one of the parents is of the category
pub record Hits (i : Instance) (c : ℕ) (parents : List ℕ) : Type 0 where
  pub hit : ℕ
  pub is_parent : Contains parents hit
  pub category : category_of i hit ≡ c

-- all parents are marked, or one is of the category
pub record MarkGives (whole : Bool) (i : Instance) (c : ℕ) (parents : List ℕ) (before after : List Bool)
    (old new : List ℕ) : Type 0 where
  pub marked : whole ≡ true → IsMarking i c parents before after old new
  pub hit : whole ≡ false → Hits i c parents
