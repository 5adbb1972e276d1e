-- What a text of facts means: its facts, or the name of its first fault.
--     member_meant   the member that a field names
--     value_meant    the value that a field spells
--     fact_meant     the fact of a record
--     facts_meant    those of a text
use Rattle.std.specs.Prelude.{◌==◌, not, ℕ, ℤ, List, [], length, codes, if◌then◌else◌, nat_le, Result, Ok, Err}
use Rattle.olap_base.specs.Following.{given, goes_on}
use Rattle.olap_base.specs.Graph.{Graph}
use Rattle.olap_base.specs.Instance.{Instance, category_of}
use Rattle.olap_base.specs.Views.{Fact}
use Rattle.olap_base.specs.declared.refusals.Fault.{Fault}
use Rattle.olap_records.specs.Faults.{field}
use Rattle.olap_records.specs.Tables.{all_read, table_meant}
use Rattle.olap_instance.specs.Members.{member_named}
use Rattle.olap_numerals.specs.Values.{value_of}
use Rattle.olap_facts.specs.FactText.{header, is_bottom}

-- the member of a bottom category that a field names
abbrev pub member_meant : Graph → Instance → List ℕ → Result ℕ (List ℕ)
member_meant g i id = given (member_named i id) (codes "UnknownMember") (λ y.
    if is_bottom g (category_of i y) then Ok y else Err (codes "NotBottom"))

-- the value that a field spells, after so many facts, where there may be so many
abbrev pub value_meant : ℕ → ℕ → List ℕ → Result ℤ (List ℕ)
value_meant most before text = given (value_of text) (codes "BadNumber") (λ v.
    if nat_le most before then Err (codes "TooManyFacts") else Ok v)

-- a record's fact, or the first check that the record fails, after the records before it
abbrev pub fact_meant : ℕ → Graph → Instance → List (List (List ℕ)) → List (List ℕ) → Result (Fact ℕ) (List ℕ)
fact_meant most g i before r =
    if not (length r == 2) then Err (codes "FieldCount")
    else goes_on (member_meant g i (field r 0)) (λ y.
    goes_on (value_meant most (length before) (field r 1)) (λ v. Ok (record { at = y; value = v })))

-- the facts of a text's records, where there may be so many
abbrev pub facts_meant : ℕ → Graph → Instance → List (List (List ℕ)) → Result (List (Fact ℕ)) (Fault (List ℕ))
facts_meant most g i = table_meant header (all_read (fact_meant most g i) [])
