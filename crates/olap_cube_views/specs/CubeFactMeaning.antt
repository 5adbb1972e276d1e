-- What a text of a cube's facts means: its facts, or the name of its first fault.
--     members_meant     the members that the first fields of a record name
--     cube_fact_meant   the fact of a record
--     cube_facts_meant  those of a text
use Rattle.std.specs.Prelude.{◌==◌, ◌+◌, ◌∷◌, not, ℕ, List, [], length, codes, if◌then◌else◌, Result, Ok, Err}
use Rattle.olap_base.specs.Following.{goes_on}
use Rattle.olap_base.specs.Graph.{Graph}
use Rattle.olap_base.specs.Instance.{Instance}
use Rattle.olap_base.specs.declared.refusals.Fault.{Fault}
use Rattle.olap_records.specs.Faults.{field}
use Rattle.olap_records.specs.Tables.{all_read, table_meant}
use Rattle.olap_facts.specs.FactMeaning.{member_meant, value_meant}
use Rattle.olap_base.specs.Views.{Fact}
use Rattle.olap_cube_views.specs.CubeFactText.{header}

-- the members that the first fields name, one for each dimension, or the first fault from left to right
abbrev pub members_meant : List Graph → List Instance → List (List ℕ) → Result (List ℕ) (List ℕ)
members_meant (g ∷ gs) (i ∷ is) (id ∷ ids) =
    goes_on (member_meant g i id) (λ x. goes_on (members_meant gs is ids) (λ xs. Ok (x ∷ xs)))
members_meant _ _ _ = Ok []

-- a record's fact, or the first check that the record fails, after the records before it
abbrev pub cube_fact_meant : ℕ → List Graph → List Instance → List (List (List ℕ)) → List (List ℕ)
    → Result (Fact (List ℕ)) (List ℕ)
cube_fact_meant most gs is before r =
    if not (length r == length is + 1) then Err (codes "FieldCount")
    else goes_on (members_meant gs is r) (λ xs.
    goes_on (value_meant most (length before) (field r (length is))) (λ v. Ok (record { at = xs; value = v })))

-- the facts of a text's records, where there may be so many
abbrev pub cube_facts_meant : ℕ → List Graph → List Instance → List (List (List ℕ))
    → Result (List (Fact (List ℕ))) (Fault (List ℕ))
cube_facts_meant most gs is = table_meant (header (length is)) (all_read (cube_fact_meant most gs is) [])
