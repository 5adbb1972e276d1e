-- Sets of categories that grow by edges.
--     IsAdded      a category was added, where another was in the set and an edge leads there
--     IsAddedFrom  all were added to which another one leads that was in the set
--     SeenUpTo     an edge that was seen
--     SeenFrom     one from a category that was seen
--     Grows        the set took in what edges lead to, each edge that was seen once
--     IsWalk       the set of what a category reaches
--     IsTouched, IsTouchedFrom    the ends of an edge, or of those from a category, were added
use Rattle.std.specs.Prelude.{◌≡◌, ◌<◌, ◌⊎◌, ◌↔◌, ℕ, Bool, true, false}
use Rattle.std.specs.FinSet as set
use Rattle.std.specs.Ordering.{nat_cmp}
use Rattle.olap_base.specs.Graph.{CategoryReaches, Graph}

-- the number is in the set
abbrev pub IsIn : set.FinSet nat_cmp → ℕ → Type 0
IsIn s x = set.contains s x ≡ true

-- d was added, where an edge joins c and d, c was in the set, and d wasn't; and whether the set grew, now or before
pub record IsAdded (old : set.FinSet nat_cmp) (joins : Bool) (c d : ℕ) (grew : Bool) (new : set.FinSet nat_cmp)
    (now : Bool) : Type 0 where
  pub kept : (x : ℕ) → IsIn old x → IsIn new x
  pub only : (x : ℕ) → IsIn new x → IsIn old x ⊎ ((x ≡ d) × IsIn old c × (joins ≡ true))
  pub same : now ≡ false → (grew ≡ false) × (new ≡ old) × (joins ≡ true → IsIn old c → IsIn old d)
  pub more : now ≡ true → (grew ≡ true) ⊎ (IsIn new d × (IsIn old d → ⊥))

-- all of a list were added, where c was in the set and some of them weren't; and whether the set grew, now or before
pub record IsAddedFrom (old : set.FinSet nat_cmp) (c : ℕ) (to : set.FinSet nat_cmp) (grew : Bool)
    (new : set.FinSet nat_cmp) (now : Bool) : Type 0 where
  pub kept : (x : ℕ) → IsIn old x → IsIn new x
  pub only : (x : ℕ) → IsIn new x → IsIn old x ⊎ (IsIn old c × IsIn to x)
  pub same : now ≡ false → (grew ≡ false) × (new ≡ old) × (IsIn old c → (x : ℕ) → IsIn to x → IsIn old x)
  pub more : now ≡ true → (grew ≡ true) ⊎ ((x : ℕ) × IsIn to x × IsIn new x × (IsIn old x → ⊥))

-- an edge leads from c, which is one of the first i categories, to d
abbrev pub SeenFrom : (ℕ → ℕ → Type 0) → ℕ → ℕ → ℕ → Type 0
SeenFrom Leads i c d = (c < i) × Leads c d

-- one of the edges that were seen, of those that are taken, leads from c to d
abbrev pub SeenUpTo : (ℕ → Bool) → (ℕ → ℕ) → (ℕ → ℕ) → ℕ → ℕ → ℕ → Type 0
SeenUpTo takes child parent i c d = (k : ℕ) × (k < i) × (takes k ≡ true) × (child k ≡ c) × (parent k ≡ d)

-- the set took in what edges of a graph of n categories lead to, each edge that was seen once
pub record Grows (g : Graph) (n : ℕ) (Seen : ℕ → ℕ → Type 0) (old new : set.FinSet nat_cmp) (grew : Bool)
    : Type 0 where
  pub kept : (x : ℕ) → IsIn old x → IsIn new x
  pub sound : (a : ℕ) → ((x : ℕ) → IsIn old x → CategoryReaches g a x) → (x : ℕ) → IsIn new x → CategoryReaches g a x
  pub same : grew ≡ false → new ≡ old
  pub closed : grew ≡ false → (c d : ℕ) → Seen c d → IsIn old c → IsIn old d
  pub more : grew ≡ true → (x : ℕ) × (x < n) × IsIn new x × (IsIn old x → ⊥)

-- the set of what a category reaches
abbrev pub IsWalk : Graph → ℕ → set.FinSet nat_cmp → Type 0
IsWalk g a s = (x : ℕ) → IsIn s x ↔ CategoryReaches g a x

-- both ends of an edge were added, where it is one that is taken
abbrev pub IsTouched : set.FinSet nat_cmp → Bool → ℕ → ℕ → set.FinSet nat_cmp → Type 0
IsTouched old joins c d new = (x : ℕ) → IsIn new x ↔ (IsIn old x ⊎ ((joins ≡ true) × ((c ≡ x) ⊎ (d ≡ x))))

-- the number was in the set, or is an end of one of the edges that were seen, of those that are taken
abbrev pub TouchedUpTo : set.FinSet nat_cmp → (ℕ → Bool) → (ℕ → ℕ) → (ℕ → ℕ) → ℕ → ℕ → Type 0
TouchedUpTo old takes child parent i x =
    IsIn old x ⊎ ((k : ℕ) × (k < i) × (takes k ≡ true) × ((child k ≡ x) ⊎ (parent k ≡ x)))

-- a category and those to which edges lead from it were added, if they lead to some
abbrev pub IsTouchedFrom : set.FinSet nat_cmp → ℕ → set.FinSet nat_cmp → set.FinSet nat_cmp → Type 0
IsTouchedFrom old c to new = (x : ℕ) → IsIn new x ↔ (IsIn old x ⊎ ((d : ℕ) × IsIn to d × ((c ≡ x) ⊎ (d ≡ x))))

-- the number was in the set, or is an end of an edge from one of the first i categories
abbrev pub TouchedFrom : set.FinSet nat_cmp → (ℕ → ℕ → Type 0) → ℕ → ℕ → Type 0
TouchedFrom old Leads i x =
    IsIn old x ⊎ ((c d : ℕ) × (c < i) × Leads c d × ((c ≡ x) ⊎ (d ≡ x)))
