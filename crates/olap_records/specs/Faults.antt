-- The first fault of a list of records.
--     field         a field of a record
--     first_fault   the first record that has a fault, by its place, with its fault
use Rattle.std.specs.Prelude.{◌++◌, ◌∷◌, ℕ, List, [], length, Option, Some, None, slice_index_or}

-- the field at a place of a record; there is nothing past its end
abbrev pub field : List (List ℕ) → ℕ → List ℕ
field r i = slice_index_or r i []

-- the record with its fault, or else what comes after it
abbrev pub or_after : {K : Type 0} → ℕ → Option K → Option (ℕ × K) → Option (ℕ × K)
or_after n (Some k) after = Some (n, k)
or_after n None after = after

-- The first record that has a fault, by its place, with its fault. `fault` is the first check that a record fails,
-- of those that are made of it after the records before it.
abbrev pub first_fault : {R K : Type 0} → (List R → R → Option K) → List R → List R → Option (ℕ × K)
first_fault fault before [] = None
first_fault fault before (r ∷ rs) = or_after (length before) (fault before r) (first_fault fault (before ++ r ∷ []) rs)
