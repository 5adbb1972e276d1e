-- The program's decisions on ways, and the tables beside them.
--     way_kept         one decision
--     leading_way      a way that is there
--     status_of_marks  what two marks say of a way
--     IsPut            a category was put into the set of another one
--     IsTakenOut       one was taken out
use Rattle.std.specs.Prelude.{◌≡◌, ◌==◌, ◌&&◌, ◌||◌, ℕ, List, Bool, true, false, Option, None, Some, not}
use Rattle.std.specs.FinSet as set
use Rattle.olap_bits.specs.declared.sets.CatSet.{CatSet}
use Rattle.olap_graph.specs.Rows.{row}
use Rattle.olap_proof.specs.declared.ways.Way.{Way as OneWay}
use Rattle.olap_proof.specs.Places.{Way}

-- a decision on a way
abbrev pub way_kept : OneWay → Way
way_kept w = record { child = w.child.0; parent = w.parent.0; there = w.there }

-- a way that is there
abbrev pub leading_way : ℕ → ℕ → Way
leading_way c d = record { child = c; parent = d; there = true }

-- what two marks say of a way
abbrev pub status_of_marks : Bool → Bool → Option Bool
status_of_marks true absent = Some true
status_of_marks false true = Some false
status_of_marks false false = None

-- d was put into the set of c
abbrev pub IsPut : {W : ℕ} → List (CatSet W) → ℕ → ℕ → List (CatSet W) → Type 0
IsPut old c d new = (x y : ℕ) → set.contains (row new x) y
    ≡ ((c == x) && (d == y)) || set.contains (row old x) y

-- d was taken out of the set of c
abbrev pub IsTakenOut : {W : ℕ} → List (CatSet W) → ℕ → ℕ → List (CatSet W) → Type 0
IsTakenOut old c d new = (x y : ℕ) → set.contains (row new x) y
    ≡ not ((c == x) && (d == y)) && set.contains (row old x) y
