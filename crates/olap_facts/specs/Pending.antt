-- Records that were cut, whose members are still to be looked up.
--     told_by      what a record tells but for its member
--     ArePending   these are the records
--     HasCut       they were cut off a text
use Rattle.std.specs.Prelude.{◌≡◌, ◌==◌, ◌++◌, ℕ, List, [], length, map}
use Rattle.csv.specs.Records.{fields_of, partial_of}
use Rattle.olap_numerals.specs.Values.{value_of}
use Rattle.olap_records.specs.Faults.{field}
use Rattle.olap_records.specs.Standing.{Standing, at_start, behind, standing}
use Rattle.olap_facts.specs.declared.pending.Pending.{Pending}
use Rattle.olap_facts.specs.declared.pending.Told.{Told}

-- what a record tells but for its member
abbrev pub told_by : List (List ℕ) → Told
told_by r = record { is_pair = length r == 2; value = value_of (field r 1) }

-- these are the records
pub record ArePending (rows : List (List (List ℕ))) (p : Pending) : Type 0 where
  pub ids : fields_of p.ids ≡ map (λ r. field r 0) rows
  pub told : p.told.items ≡ map told_by rows

-- these bytes of a text ended the records that are pending
pub record HasCut (before : Standing) (bytes : List ℕ) (after : Standing) (p : Pending) : Type 0 where
  pub rows : List (List (List ℕ))
  pub are : ArePending rows p
  pub whole : partial_of p.ids ≡ []
  pub stands : (fed : List ℕ) (done : List (List (List ℕ))) → standing at_start fed ≡ behind done before
      → standing at_start (fed ++ bytes) ≡ behind (done ++ rows) after
