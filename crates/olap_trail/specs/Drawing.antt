-- Edges that are drawn one after another, and what each category then leads to.
--     Drawing         how many categories there are, how many edges there is room for, and the edges
--     Joins           one of the edges leads from a category to another
--     IsBeyond        the set of those to which a walk of one edge or more leads from a category
--     IsAbove         the same, and the category itself
--     IsCyclic        some category climbs back to itself
--     IsBypassed      a walk of two edges or more leads to a parent, by way of another one
--     AreBeyond       for each category that set
use Rattle.std.specs.Prelude.{◌≡◌, ℕ, ◌+◌, ◌<◌, ◌⊎◌, ◌↔◌, List, Contains, true}
use Rattle.std.specs.FinSet as set
use Rattle.std.specs.Ordering.{nat_cmp}
use Rattle.olap_base.specs.Graph.{Edge}
use Rattle.olap_base.specs.Steps.{Climb}
use Rattle.olap_bits.specs.declared.sets.CatSet.{CatSet}
use Rattle.olap_graph.specs.Rows.{row}
use Rattle.olap_trail.specs.declared.drawing.Ends.{Ends}

-- how many categories there are, how many edges there is room for, and the edges
pub record Drawing : Type 0 where
  pub count : ℕ
  pub room : ℕ
  pub edges : List Edge

-- the edge between two ends
abbrev pub edge_of : Ends → Edge
edge_of e = record { child = e.child.0; parent = e.parent.0 }

-- one of the edges leads from c to d
abbrev pub Joins : List Edge → ℕ → ℕ → Type 0
Joins es c d = Contains es (record { child = c; parent = d })

-- the number is in the set
abbrev pub IsIn : set.FinSet nat_cmp → ℕ → Type 0
IsIn s d = set.contains s d ≡ true

-- the set of those to which a walk of one edge or more leads from c
abbrev pub IsBeyond : List Edge → ℕ → set.FinSet nat_cmp → Type 0
IsBeyond es c s = (d : ℕ) → IsIn s d ↔ Climb (Joins es) c d

-- the same, and c itself
abbrev pub IsAbove : List Edge → ℕ → set.FinSet nat_cmp → Type 0
IsAbove es c s = (d : ℕ) → IsIn s d ↔ ((c ≡ d) ⊎ Climb (Joins es) c d)

-- the set of those to which an edge leads from c
abbrev pub IsNext : List Edge → ℕ → set.FinSet nat_cmp → Type 0
IsNext es c s = (d : ℕ) → IsIn s d ↔ Joins es c d

-- some category climbs back to itself
abbrev pub IsCyclic : List Edge → Type 0
IsCyclic es = (c : ℕ) × Climb (Joins es) c c

-- a walk of one edge or more leads from d to a parent of c
abbrev pub IsBypassed : List Edge → ℕ → ℕ → Type 0
IsBypassed es c d = (e : ℕ) × Joins es c e × Climb (Joins es) d e

-- an edge, from whose parent such a walk leads
pub record HoldsBypass (es : List Edge) : Type 0 where
  pub child : ℕ
  pub through : ℕ
  pub first : Joins es child through
  pub bypass : IsBypassed es child through

-- a set, after x began to lead wherever c leads, if x is c or its set has c
abbrev pub IsGrown : set.FinSet nat_cmp → ℕ → ℕ → set.FinSet nat_cmp → set.FinSet nat_cmp → Type 0
IsGrown old x c through new = (d : ℕ) → IsIn new d ↔ (IsIn old d ⊎ (((x ≡ c) ⊎ IsIn old c) × IsIn through d))

-- from a place on the sets of what is beyond each of n categories
abbrev pub AreBeyond : {W : ℕ} → List Edge → ℕ → ℕ → List (CatSet W) → Type 0
AreBeyond es n place rows = (c : ℕ) → c < n → IsBeyond es c (row rows (place + c))
