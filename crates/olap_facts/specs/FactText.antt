-- What the records of a text of facts stand for: a fact table, or the text's first fault.
--     is_bottom     whether a category is a bottom one
--     fact_fault    what is wrong with a record
--     facts_read    the facts or the fault
use Rattle.std.specs.Prelude.{◌==◌, ◌&&◌, ◌∷◌, Bool, not, ℕ, pos, List, [], length, map, codes, Option, Some, None, is_none, unwrap_or, if◌then◌else◌, nat_le, nat_lt, Result, Ok}
use Rattle.std.specs.List.{list_any}
use Rattle.olap_base.specs.Graph.{Graph, category_count}
use Rattle.olap_base.specs.Instance.{Instance, category_of}
use Rattle.olap_base.specs.Limits.{most_listed_facts}
use Rattle.olap_base.specs.declared.refusals.Fault.{Fault}
use Rattle.olap_base.specs.Views.{Fact}
use Rattle.olap_records.specs.Faults.{field, first_fault}
use Rattle.olap_records.specs.Tables.{or_read, table_read}
use Rattle.olap_instance.specs.Members.{member_named, member_number}
use Rattle.olap_numerals.specs.Values.{value_of}
use Rattle.olap_facts.specs.declared.kinds.FactKind.{FactKind}
use Rattle.olap_facts.specs.declared.kinds.FactKind.TheVariants as kind

-- the fields of the first record
abbrev pub header : List (List ℕ)
header = codes "member" ∷ codes "value" ∷ []

-- a category other than `All` that is no edge's parent
abbrev pub is_bottom : Graph → ℕ → Bool
is_bottom g c = not (c == 0) && nat_lt c (category_count g) && not (list_any (λ e. e.parent == c) g.edges)

-- ---- a record

-- the first check that a record fails, after the records before it, if at most this many facts may come
abbrev pub fact_fault_within : ℕ → Graph → Instance → List (List (List ℕ)) → List (List ℕ) → Option FactKind
fact_fault_within most g i before r =
    if not (length r == 2) then Some kind.FieldCount
    else if is_none (member_named i (field r 0)) then Some kind.UnknownMember
    else if not (is_bottom g (category_of i (member_number i (field r 0)))) then Some kind.NotBottom
    else if is_none (value_of (field r 1)) then Some kind.BadNumber
    else if nat_le most (length before) then Some kind.TooManyFacts
    else None

-- the same for a file that is read into a list
abbrev pub fact_fault : Graph → Instance → List (List (List ℕ)) → List (List ℕ) → Option FactKind
fact_fault = fact_fault_within most_listed_facts

-- a record's fact: the member that it names, and the value that it spells
abbrev pub fact_read : Instance → List (List ℕ) → Fact ℕ
fact_read i r = record { at = member_number i (field r 0); value = unwrap_or (value_of (field r 1)) (pos 0) }

-- ---- all of them

-- what the records of a text stand for, if at most this many facts may come
abbrev pub facts_read_within : ℕ → Graph → Instance → List (List (List ℕ)) → Result (List (Fact ℕ)) (Fault FactKind)
facts_read_within most g i = table_read header kind.BadHeader
    (λ rows. or_read (first_fault (fact_fault_within most g i) [] rows) (Ok (map (fact_read i) rows)))

-- the same for a file that is read into a list
abbrev pub facts_read : Graph → Instance → List (List (List ℕ)) → Result (List (Fact ℕ)) (Fault FactKind)
facts_read = facts_read_within most_listed_facts
