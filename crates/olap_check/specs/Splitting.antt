-- The category with two members that a member is far below.
--     MarksAbove     exactly what a member is far below is marked
--     HasTwo         two members of a category are marked
--     IsLeastSplit   the least category with two members that a member is far below
use Rattle.std.specs.Prelude.{◌≡◌, ◌≢◌, ℕ, ◌<◌, ◌↔◌, Bool, List, Option, Some, None, length}
use Rattle.olap_base.specs.Instance.{Instance, IsFarBelow, category_of}
use Rattle.olap_graph.specs.Tables.{IsMarked}
use Rattle.olap_check.specs.Strata.{IsSearch}

-- exactly what x is far below is marked
pub record MarksAbove (i : Instance) (x : ℕ) (marks : List Bool) : Type 0 where
  pub same_length : length marks ≡ length i
  pub exact : (y : ℕ) → IsMarked marks y ↔ IsFarBelow i x y

-- two members of the category are marked
pub record HasTwo (i : Instance) (marks : List Bool) (c : ℕ) : Type 0 where
  pub one : ℕ
  pub other : ℕ
  pub one_is : IsMarked marks one × (category_of i one ≡ c)
  pub other_is : IsMarked marks other × (category_of i other ≡ c)
  pub apart : one ≢ other

-- x is far below two members of c
abbrev pub SplitsAt : Instance → ℕ → ℕ → Type 0
SplitsAt i x c = (y z : ℕ) × IsFarBelow i x y × IsFarBelow i x z × (category_of i y ≡ c) × (category_of i z ≡ c)
    × (y ≢ z)

-- c is the least category with two members that x is far below
pub record IsLeastSplit (i : Instance) (x c : ℕ) : Type 0 where
  pub splits : SplitsAt i x c
  pub before : (d : ℕ) → d < c → SplitsAt i x d → ⊥

-- ---- inside the search

-- the one marked member of the category among the first n
pub record IsOnly (i : Instance) (marks : List Bool) (c n y : ℕ) : Type 0 where
  pub inside : y < n
  pub is_one : IsMarked marks y × (category_of i y ≡ c)
  pub alone : (w : ℕ) → w < n → IsMarked marks w → category_of i w ≡ c → w ≡ y

-- the one marked member of the category among the first n, or none
abbrev pub IsFoundAmong : Instance → List Bool → ℕ → ℕ → Option ℕ → Type 0
IsFoundAmong i marks c n None = (w : ℕ) → w < n → IsMarked marks w → category_of i w ≡ c → ⊥
IsFoundAmong i marks c n (Some y) = IsOnly i marks c n y

-- the search upwards from x, all of it
pub record IsClimbing (i : Instance) (n x : ℕ) (marks : List Bool) (list : List ℕ) : Type 0 where
  pub search : IsSearch i n x marks list
  pub far : (y : ℕ) → IsMarked marks y → IsFarBelow i x y
