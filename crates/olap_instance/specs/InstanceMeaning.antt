-- What a text of an instance means: the instance, or the name of its first fault.
--     member_meant     the member of a record, its parents aside
--     parents_meant    its parents
--     instance_meant   the instance of a text
use Rattle.std.specs.Prelude.{◌==◌, ◌||◌, ◌+◌, ◌∷◌, ◌++◌, not, ℕ, List, [], length, map, codes, if◌then◌else◌, nat_le, zip, Result, Ok, Err}
use Rattle.std.specs.List.{list_any}
use Rattle.std.specs.Result.{result_map_both}
use Rattle.std.specs.Str.{bytes_eq}
use Rattle.olap_base.specs.Following.{given, goes_on}
use Rattle.olap_base.specs.Graph.{Graph, is_number}
use Rattle.olap_base.specs.Instance.{Instance, Member}
use Rattle.olap_base.specs.Limits.{most_members}
use Rattle.olap_base.specs.Naming.{place_of}
use Rattle.olap_base.specs.declared.refusals.Fault.{Fault}
use Rattle.olap_graph.specs.Lookups.{category_named}
use Rattle.olap_records.specs.Tables.{all_read, table_meant}
use Rattle.olap_instance.specs.InstanceText.{category_field, header, id_field, ids_of, is_bad_id, is_bad_number, is_known, is_no_text, is_too_long, name_field, parents_field, pieces_of}
use Rattle.olap_instance.specs.Members.{all_member, childless}

-- a record's member without its parents, or the first check that the record fails, after the records before it
abbrev pub member_meant : Graph → List (List (List ℕ)) → List (List ℕ) → Result Member (List ℕ)
member_meant g before r =
    if not (length r == 4) then Err (codes "FieldCount")
    else if is_no_text r then Err (codes "BadUtf8")
    else if is_bad_id (id_field r) then Err (codes "BadId")
    else if is_too_long (id_field r) || is_too_long (name_field r) then Err (codes "TextTooLong")
    else given (category_named g (category_field r)) (codes "UnknownCategory") (λ c.
    if c == 0 then Err (codes "RowForAll")
    else if is_bad_number (is_number g c) (name_field r) then Err (codes "BadNumber")
    else if is_known before (id_field r) then Err (codes "DuplicateId")
    else if nat_le most_members (length before + 1) then Err (codes "TooManyMembers")
    else Ok (childless (id_field r) c (name_field r)))

-- the member whose id a parent is, after the parents before it
abbrev pub parent_meant : List (List ℕ) → List (List ℕ) → List ℕ → Result ℕ (List ℕ)
parent_meant ids before id = given (place_of id ids) (codes "UnknownParent") (λ y.
    if list_any (bytes_eq id) before then Err (codes "DuplicateParent") else Ok y)

-- a record's parents, or the first fault of them, whatever stands before the record
abbrev pub parents_meant : List (List ℕ) → List (List (List ℕ)) → List (List ℕ) → Result (List ℕ) (List ℕ)
parents_meant ids before r =
    result_map_both (λ ps. ps) (λ p. p.1) (all_read (parent_meant ids) [] (pieces_of (parents_field r)))

-- the members of a text's records, and then `all`: no parent is looked at before each record has passed the first checks
abbrev pub instance_meant : Graph → List (List (List ℕ)) → Result Instance (Fault (List ℕ))
instance_meant g = table_meant header (λ rows.
    goes_on (all_read (member_meant g) [] rows) (λ members.
    goes_on (all_read (parents_meant (ids_of rows)) [] rows) (λ parents.
    Ok (map (λ p. record p.0 { parents = p.1 }) (zip members parents) ++ all_member ∷ []))))
