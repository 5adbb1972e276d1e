-- The instance that the records of a text stand for, or the text's first fault.
--     instance_read   the instance or the fault
--     member_fault    what is wrong with a member, its parents aside
--     parents_fault   what is wrong with a member's parents
use Rattle.std.specs.Prelude.{◌==◌, ◌&&◌, ◌||◌, ◌+◌, ◌∷◌, ◌++◌, Bool, not, ℕ, List, [], length, map, codes, Option, Some, None, is_some, is_none, unwrap_or, if◌then◌else◌, nat_le, nat_lt, Result, Ok}
use Rattle.std.specs.List.{list_any, slice_split}
use Rattle.std.specs.Option.{option_map}
use Rattle.std.specs.Str.{bytes_eq, is_utf8}
use Rattle.olap_base.specs.Bytes.{semicolon}
use Rattle.olap_base.specs.Graph.{Graph, is_number}
use Rattle.olap_base.specs.Instance.{Instance, Member}
use Rattle.olap_base.specs.Limits.{most_members, most_text_bytes}
use Rattle.olap_base.specs.Naming.{place_of}
use Rattle.olap_base.specs.declared.refusals.Fault.{Fault}
use Rattle.olap_graph.specs.Lookups.{category_named}
use Rattle.olap_numerals.specs.Numerals.{number_of}
use Rattle.olap_records.specs.Faults.{field, first_fault}
use Rattle.olap_records.specs.Tables.{or_read, table_read}
use Rattle.olap_instance.specs.Members.{all_member, childless}
use Rattle.olap_instance.specs.declared.refusals.InstanceKind.{InstanceKind}
use Rattle.olap_instance.specs.declared.refusals.InstanceKind.TheVariants as kind

-- the first record of a text
abbrev pub header : List (List ℕ)
header = codes "id" ∷ codes "category" ∷ codes "name" ∷ codes "parents" ∷ []

-- a record's id
abbrev pub id_field : List (List ℕ) → List ℕ
id_field r = field r 0

-- the name of a record's category
abbrev pub category_field : List (List ℕ) → List ℕ
category_field r = field r 1

-- a record's name
abbrev pub name_field : List (List ℕ) → List ℕ
name_field r = field r 2

-- a record's field of parents, which has their ids
abbrev pub parents_field : List (List ℕ) → List ℕ
parents_field r = field r 3

-- the category that a record names, or else `All`
abbrev pub category_number : Graph → List (List ℕ) → ℕ
category_number g r = unwrap_or (category_named g (category_field r)) 0

-- ---- the members, their parents aside

-- a field is not UTF-8
abbrev pub is_no_text : List (List ℕ) → Bool
is_no_text r =
    not (is_utf8 (field r 0)) || not (is_utf8 (field r 1)) || not (is_utf8 (field r 2)) || not (is_utf8 (field r 3))

-- no byte, or a semicolon among them
abbrev pub is_bad_id : List ℕ → Bool
is_bad_id id = (length id == 0) || list_any (λ b. b == semicolon) id

-- more bytes than a text of a file may have
abbrev pub is_too_long : List ℕ → Bool
is_too_long text = nat_lt most_text_bytes (length text)

-- no numeral, where names are numbers
abbrev pub is_bad_number : Bool → List ℕ → Bool
is_bad_number number name = number && is_none (number_of name)

-- the id of `all`, or of an earlier record
abbrev pub is_known : List (List (List ℕ)) → List ℕ → Bool
is_known before id = bytes_eq id (codes "all") || is_some (place_of id (map id_field before))

-- the first check that a record fails in the first pass, after the records before it
abbrev pub member_fault : Graph → List (List (List ℕ)) → List (List ℕ) → Option InstanceKind
member_fault g before r =
    if not (length r == 4) then Some kind.FieldCount
    else if is_no_text r then Some kind.BadUtf8
    else if is_bad_id (id_field r) then Some kind.BadId
    else if is_too_long (id_field r) || is_too_long (name_field r) then Some kind.TextTooLong
    else if is_none (category_named g (category_field r)) then Some kind.UnknownCategory
    else if category_number g r == 0 then Some kind.RowForAll
    else if is_bad_number (is_number g (category_number g r)) (name_field r) then Some kind.BadNumber
    else if is_known before (id_field r) then Some kind.DuplicateId
    else if nat_le most_members (length before + 1) then Some kind.TooManyMembers
    else None

-- a record's member without its parents
abbrev pub member_read : Graph → List (List ℕ) → Member
member_read g r = childless (id_field r) (category_number g r) (name_field r)

-- ---- their parents

-- the ids of all members, `all` last
abbrev pub ids_of : List (List (List ℕ)) → List (List ℕ)
ids_of rows = map id_field rows ++ codes "all" ∷ []

-- the pieces of a field between its semicolons; an empty field has none
abbrev pub pieces_of : List ℕ → List (List ℕ)
pieces_of bs = if length bs == 0 then [] else slice_split (λ b. b == semicolon) bs

-- the first check that a piece fails, after the pieces before it
abbrev pub piece_fault : List (List ℕ) → List (List ℕ) → List ℕ → Option InstanceKind
piece_fault ids before p =
    if is_none (place_of p ids) then Some kind.UnknownParent
    else if list_any (bytes_eq p) before then Some kind.DuplicateParent
    else None

-- the first fault of a list of pieces
abbrev pub pieces_fault : List (List ℕ) → List (List ℕ) → Option InstanceKind
pieces_fault ids pieces = option_map (λ p. p.1) (first_fault (piece_fault ids) [] pieces)

-- the first fault of a record's parents, whatever stands before it
abbrev pub parents_fault : List (List ℕ) → List (List (List ℕ)) → List (List ℕ) → Option InstanceKind
parents_fault ids before r = pieces_fault ids (pieces_of (parents_field r))

-- the member whose id a piece is
abbrev pub parent_read : List (List ℕ) → List ℕ → ℕ
parent_read ids p = unwrap_or (place_of p ids) 0

-- the places of a record's parents
abbrev pub parents_read : List (List ℕ) → List (List ℕ) → List ℕ
parents_read ids r = map (parent_read ids) (pieces_of (parents_field r))

-- ---- all of them

-- a record's member
abbrev pub whole_read : Graph → List (List ℕ) → List (List ℕ) → Member
whole_read g ids r = record (member_read g r) { parents = parents_read ids r }

-- the records' members, and then `all`
abbrev pub members_read : Graph → List (List (List ℕ)) → Instance
members_read g rows = map (whole_read g (ids_of rows)) rows ++ all_member ∷ []

-- the records after the header: no parent is looked at before each record has passed the first checks
abbrev pub body_read : Graph → List (List (List ℕ)) → Result Instance (Fault InstanceKind)
body_read g rows =
    or_read (first_fault (member_fault g) [] rows)
    (or_read (first_fault (parents_fault (ids_of rows)) [] rows) (Ok (members_read g rows)))

-- what the records of a text stand for
abbrev pub instance_read : Graph → List (List (List ℕ)) → Result Instance (Fault InstanceKind)
instance_read g = table_read header kind.BadHeader (body_read g)
