-- The first fault, place by place.
use Rattle.std.specs.Prelude.{◌≡◌, ◌<◌, ◌↔◌, ℕ, List, [], take, slice_get, Option, Some, None}
use Rattle.olap_records.specs.Faults.{first_fault}

-- the record at j has no fault after the records before it
abbrev pub Passes : {R K : Type 0} → (List R → R → Option K) → List R → ℕ → Type 0
Passes {R} fault rows j = (r : R) → slice_get rows j ≡ Some r → fault (take j rows) r ≡ None

-- the record at i has the fault k after the records before it, and each of these passes
pub record IsFirstFault {R K : Type 0} (fault : List R → R → Option K) (rows : List R) (i : ℕ) (k : K) : Type 0 where
  pub record_at : R
  pub stands : slice_get rows i ≡ Some record_at
  pub fails : fault (take i rows) record_at ≡ Some k
  pub none_before : (j : ℕ) → j < i → Passes fault rows j

-- what `first_fault` finds is the first fault, and a first fault is found
abbrev pub FirstFaultIsFirst : Type 0 → Type 0 → Type 0
FirstFaultIsFirst R K = (fault : List R → R → Option K) (rows : List R) (i : ℕ) (k : K)
    → (first_fault fault [] rows ≡ Some (i, k)) ↔ IsFirstFault fault rows i k

-- it finds none exactly if every record passes
abbrev pub NoFaultIsNone : Type 0 → Type 0 → Type 0
NoFaultIsNone R K = (fault : List R → R → Option K) (rows : List R)
    → (first_fault fault [] rows ≡ None) ↔ ((j : ℕ) → Passes fault rows j)
