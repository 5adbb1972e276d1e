-- A set for each category: those that it reaches.
--     Has            a category's set has a number
--     AreOwn         each set is that of its category alone
--     AreJoined      and has those that are joined to its category
--     AreDrawn       and has the parents by the first edges
--     Passes         a set gets what another one has
--     IsClosure      each set has what steps through the sets lead to
--     AreReached     each set has what its category reaches
use Rattle.std.specs.Prelude.{◌≡◌, ◌<◌, ◌⊎◌, ◌↔◌, ℕ, List, true, length, map, slice_index_or}
use Rattle.std.specs.FinSet as set
use Rattle.std.specs.Ordering.{nat_cmp}
use Rattle.olap_base.specs.Graph.{Graph, CategoryReaches}
use Rattle.olap_base.specs.Steps.{Steps}
use Rattle.olap_bits.specs.Sets.{members}
use Rattle.olap_bits.specs.declared.sets.CatSet.{CatSet}
use Rattle.olap_graph.specs.Lookups.{edge_at}

-- the numbers in the set of a category
abbrev pub row : {W : ℕ} → List (CatSet W) → ℕ → set.FinSet nat_cmp
row rows c = slice_index_or (map members rows) c set.empty

-- the set of c has d
abbrev pub Has : {W : ℕ} → List (CatSet W) → ℕ → ℕ → Type 0
Has rows c d = set.contains (row rows c) d ≡ true

-- each set is that of its category alone
abbrev pub AreOwn : {W : ℕ} → List (CatSet W) → Type 0
AreOwn rows = (c d : ℕ) → c < length rows → Has rows c d ↔ (c ≡ d)

-- each set has its own category, and those to which the relation joins it
abbrev pub AreJoined : {W : ℕ} → (ℕ → ℕ → Type 0) → List (CatSet W) → Type 0
AreJoined Joins rows = (c d : ℕ) → c < length rows → Has rows c d ↔ ((c ≡ d) ⊎ Joins c d)

-- one of the first k edges leads from c to d
abbrev pub JoinsBefore : Graph → ℕ → ℕ → ℕ → Type 0
JoinsBefore g k c d = (i : ℕ) × (i < k) × (edge_at g i ≡ record { child = c; parent = d })

-- each set has its own category, and the parents by the first k edges
abbrev pub AreDrawn : {W : ℕ} → Graph → ℕ → List (CatSet W) → Type 0
AreDrawn g k rows = AreJoined (JoinsBefore g k) rows

-- the set of c has d, or it has k, whose set has d
abbrev pub Passes : {W : ℕ} → List (CatSet W) → ℕ → ℕ → ℕ → Type 0
Passes rows k c d = Has rows c d ⊎ (Has rows c k × Has rows k d)

-- each new set has exactly what steps through the old sets lead to
pub record IsClosure {W : ℕ} (old new : List (CatSet W)) : Type 0 where
  pub count : length new ≡ length old
  pub each : (c d : ℕ) → c < length old → Has new c d ↔ Steps (Has old) c d

-- for each of n categories exactly those that it reaches
pub record AreReached {W : ℕ} (g : Graph) (n : ℕ) (rows : List (CatSet W)) : Type 0 where
  pub count : length rows ≡ n
  pub each : (c d : ℕ) → c < n → Has rows c d ↔ CategoryReaches g c d
