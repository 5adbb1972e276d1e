-- What the records of a text of a cube's facts stand for: a fact table, or the text's first fault.
--     member_columns     the first columns' names, one for each dimension
--     member_fault       what is wrong with a field that names a member
--     members_fault      what is first wrong with those of a record
--     cube_fact_fault    what is wrong with a record
--     cube_facts_read    the facts or the fault
use Rattle.std.specs.Prelude.{◌==◌, ◌+◌, ◌++◌, ◌∷◌, not, ℕ, pos, List, [], length, map, take, codes, Option, Some, None, is_none, unwrap_or, if◌then◌else◌, nat_le, Result, Ok}
use Rattle.std.specs.Option.{option_or}
use Rattle.olap_base.specs.Graph.{Graph}
use Rattle.olap_base.specs.Instance.{Instance, category_of}
use Rattle.olap_base.specs.Limits.{most_listed_facts}
use Rattle.olap_base.specs.declared.refusals.Fault.{Fault}
use Rattle.olap_records.specs.Faults.{field, first_fault}
use Rattle.olap_records.specs.Tables.{or_read, table_read}
use Rattle.olap_instance.specs.Members.{member_named, member_number}
use Rattle.olap_numerals.specs.Values.{value_of}
use Rattle.olap_facts.specs.FactText.{is_bottom}
use Rattle.olap_facts.specs.declared.kinds.FactKind.{FactKind}
use Rattle.olap_facts.specs.declared.kinds.FactKind.TheVariants as kind
use Rattle.olap_base.specs.Views.{Fact}

-- the names of the columns of members, one for each of this many dimensions
abbrev pub member_columns : ℕ → List (List ℕ)
member_columns k = take k (codes "m1" ∷ codes "m2" ∷ codes "m3" ∷ codes "m4" ∷ [])

-- the fields of the first record, if there are this many dimensions
abbrev pub header : ℕ → List (List ℕ)
header k = member_columns k ++ codes "value" ∷ []

-- ---- a record

-- a field that names a member of a bottom category has no fault
abbrev pub member_fault : Graph → Instance → List ℕ → Option FactKind
member_fault g i f =
    if is_none (member_named i f) then Some kind.UnknownMember
    else if not (is_bottom g (category_of i (member_number i f))) then Some kind.NotBottom
    else None

-- the first fault of a record's first fields, one for each dimension, from left to right
abbrev pub members_fault : List Graph → List Instance → List (List ℕ) → Option FactKind
members_fault (g ∷ gs) (i ∷ is) (f ∷ fields) = option_or (member_fault g i f) (members_fault gs is fields)
members_fault _ _ _ = None

-- the members that they name
abbrev pub members_read : List Instance → List (List ℕ) → List ℕ
members_read (i ∷ is) (f ∷ fields) = member_number i f ∷ members_read is fields
members_read _ _ = []

-- the fault of a record whose members have none, if at most this many facts may come: the last field spells no value,
-- or there are as many before
abbrev pub value_fault_within : ℕ → List (List (List ℕ)) → List ℕ → Option FactKind
value_fault_within most before f =
    if is_none (value_of f) then Some kind.BadNumber
    else if nat_le most (length before) then Some kind.TooManyFacts
    else None

-- the first check that a record fails, after the records before it, if at most this many facts may come
abbrev pub cube_fact_fault_within : ℕ → List Graph → List Instance → List (List (List ℕ)) → List (List ℕ)
    → Option FactKind
cube_fact_fault_within most gs is before r =
    if not (length r == length is + 1) then Some kind.FieldCount
    else option_or (members_fault gs is r) (value_fault_within most before (field r (length is)))

-- the same for a file that is read into a list
abbrev pub cube_fact_fault : List Graph → List Instance → List (List (List ℕ)) → List (List ℕ) → Option FactKind
cube_fact_fault = cube_fact_fault_within most_listed_facts

-- a record's fact: the members that it names, and the value that it spells
abbrev pub cube_fact_read : List Instance → List (List ℕ) → Fact (List ℕ)
cube_fact_read is r =
    record { at = members_read is r; value = unwrap_or (value_of (field r (length is))) (pos 0) }

-- ---- all of them

-- what the records of a text stand for, if at most this many facts may come
abbrev pub cube_facts_read_within : ℕ → List Graph → List Instance → List (List (List ℕ))
    → Result (List (Fact (List ℕ))) (Fault FactKind)
cube_facts_read_within most gs is records = table_read (header (length is)) kind.BadHeader
    (λ rows. or_read (first_fault (cube_fact_fault_within most gs is) [] rows) (Ok (map (cube_fact_read is) rows)))
    records

-- the same for a file that is read into a list
abbrev pub cube_facts_read : List Graph → List Instance → List (List (List ℕ))
    → Result (List (Fact (List ℕ))) (Fault FactKind)
cube_facts_read = cube_facts_read_within most_listed_facts
