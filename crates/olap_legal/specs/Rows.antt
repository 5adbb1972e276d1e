-- For one member, the members that it reaches, by their categories.
--     none           what stands where no member of the category is reached
--     IsBounded      the categories are below a number
--     AreLinked      edges lead along with the parents
--     IsRise         the row of a member: exactly what it reaches
--     Splits         a member reaches two members of one category
use Rattle.std.specs.Prelude.{◌≡◌, ◌≢◌, ℕ, suc, ◌+◌, ◌<◌, ◌≤◌, ◌==◌, ◌⊎◌, ◌↔◌, List, [], ◌∷◌, Bool, true, false, cond, length, slice_index, Contains}
use Rattle.olap_base.specs.Graph.{Graph, HasEdge}
use Rattle.olap_base.specs.Limits.{most_members}
use Rattle.olap_base.specs.Instance.{Instance, IsBelow, Reaches, category_of}
use Rattle.olap_base.specs.Steps.{Steps}

-- the number that stands for no member
abbrev pub none : ℕ
none = 4294967295

-- each category is below n, there are few members, and parents are members
pub record IsBounded (i : Instance) (n : ℕ) : Type 0 where
  pub categories : (x : ℕ) → x < length i → category_of i x < n
  pub few : length i ≤ most_members
  pub places : (x y : ℕ) → IsBelow i x y → y < length i

-- an edge leads from each member's category to each parent's
abbrev pub AreLinked : Graph → Instance → Type 0
AreLinked g i = (x y : ℕ) → IsBelow i x y → HasEdge g (category_of i x) (category_of i y)

-- the place of its category has y
abbrev pub IsIn : Instance → List ℕ → ℕ → Type 0
IsIn i row y = slice_index row (category_of i y) ≡ y

-- what stands at a place is a member of that category
pub record IsRow (i : Instance) (row : List ℕ) : Type 0 where
  pub own : (d : ℕ) → d < length row → slice_index row d ≢ none
      → (slice_index row d < length i) × (category_of i (slice_index row d) ≡ d)

-- exactly the members that x reaches have their places
pub record IsRise (i : Instance) (n x : ℕ) (row : List ℕ) : Type 0 where
  pub same_length : length row ≡ n
  pub own : IsRow i row
  pub exact : (y : ℕ) → y < length i → IsIn i row y ↔ Reaches i x y

-- x reaches two members of one category
pub record Splits (i : Instance) (x : ℕ) : Type 0 where
  pub one : ℕ
  pub other : ℕ
  pub reaches_one : Reaches i x one
  pub reaches_other : Reaches i x other
  pub same_category : category_of i one ≡ category_of i other
  pub apart : one ≢ other

-- ---- inside the walk

-- how many places have no member
abbrev pub free_count : List ℕ → ℕ
free_count [] = 0
free_count (x ∷ xs) = cond (x == none) (suc (free_count xs)) (free_count xs)

-- the parents have their places, and those that are new there are listed
pub record IsVisit (i : Instance) (parents before after old new : List ℕ) : Type 0 where
  pub same_length : length after ≡ length before
  pub own : IsRow i after
  pub kept : (y : ℕ) → y < length i → IsIn i before y → IsIn i after y
  pub done : (y : ℕ) → Contains parents y → IsIn i after y
  pub fresh : (y : ℕ) → y < length i → IsIn i after y → IsIn i before y ⊎ (Contains parents y × Contains new y)
  pub listed : (y : ℕ) → Contains old y → Contains new y
  pub only : (y : ℕ) → Contains new y → Contains old y ⊎ Contains parents y
  pub fewer : free_count after + length new ≤ free_count before + length old

-- a parent's place had, or got, another member
pub record Meets (i : Instance) (parents before : List ℕ) : Type 0 where
  pub one : ℕ
  pub other : ℕ
  pub is_parent : Contains parents one
  pub other_is : (other < length i) × (IsIn i before other ⊎ Contains parents other)
  pub same_category : category_of i one ≡ category_of i other
  pub apart : one ≢ other

-- a visit of all parents, or two members of one category
pub record VisitGives (whole : Bool) (i : Instance) (parents before after old new : List ℕ) : Type 0 where
  pub visited : whole ≡ true → IsVisit i parents before after old new
  pub met : whole ≡ false → Meets i parents before

-- the places have what x reaches, and each member there has its parents there or is listed
pub record IsFrontier (i : Instance) (x : ℕ) (row list : List ℕ) : Type 0 where
  pub own : IsRow i row
  pub inside : x < length i
  pub start : IsIn i row x
  pub reached : (y : ℕ) → y < length i → IsIn i row y → Steps (IsBelow i) x y
  pub listed : (y : ℕ) → Contains list y → (y < length i) × IsIn i row y
  pub closed : (z : ℕ) → z < length i → IsIn i row z → Contains list z ⊎ ((y : ℕ) → IsBelow i z y → IsIn i row y)
