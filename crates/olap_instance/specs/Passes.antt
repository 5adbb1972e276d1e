-- The two passes over the records of a text, and what they find.
--     PassesFirst                what the pass over ids, categories and names finds
--     PassesSecond               what the pass over parents finds
--     AreParents, AddsParents    of one field: no fault, and its parents
--     FieldsPass                 the same of all fields
--     field_fault, field_read    a field's first fault, and the parents that it tells
--     AreStamped, AreBelow       stamps that tell which parents a field has named
use Rattle.std.specs.Prelude.{◌≡◌, ◌<◌, ◌==◌, ◌++◌, ◌∷◌, ℕ, List, [], length, map, Option, Some, None, slice_index}
use Rattle.std.specs.Borrow.{Bor}
use Rattle.std.specs.List.{list_any, slice_split}
use Rattle.olap_base.specs.Bytes.{semicolon}
use Rattle.olap_base.specs.Graph.{Graph}
use Rattle.olap_base.specs.Instance.{Instance}
use Rattle.olap_base.specs.declared.ids.MemberId.{MemberId}
use Rattle.olap_records.specs.Faults.{first_fault}
use Rattle.olap_instance.specs.declared.refusals.InstanceKind.{InstanceKind}
use Rattle.olap_instance.specs.InstanceText.{member_fault, member_read, parents_fault, parents_read, parent_read, pieces_fault, pieces_of}

-- the ids of members
abbrev pub ids_in : Instance → List (List ℕ)
ids_in i = map (λ m. m.id) i

-- no record fails a check of the first pass, and these are the members without their parents
abbrev pub PassesFirst : Graph → List (List (List ℕ)) → Instance → Type 0
PassesFirst g rows ms = (first_fault (member_fault g) [] rows ≡ None) × (ms ≡ map (member_read g) rows)

-- no piece has a fault, and these are the members that the pieces name
abbrev pub AreParents : List (List ℕ) → List (List ℕ) → List ℕ → Type 0
AreParents ids pieces places = (pieces_fault ids pieces ≡ None) × (places ≡ map (parent_read ids) pieces)

-- the pieces of what is left of a field; where nothing is left, not even an empty piece
abbrev pub pieces_left : Option (Bor (List ℕ)) → List (List ℕ)
pieces_left None = []
pieces_left (Some text) = slice_split (λ b. b == semicolon) text.now

-- the mark stands at exactly the members found
abbrev pub AreStamped : List ℕ → ℕ → List ℕ → Type 0
AreStamped stamps mark found =
    (m : ℕ) → m < length stamps → (slice_index stamps m == mark) ≡ list_any (λ n. m == n) found

-- no stamp is as high as the mark
abbrev pub AreBelow : List ℕ → ℕ → Type 0
AreBelow stamps mark = (m : ℕ) → m < length stamps → slice_index stamps m < mark

-- the members' places, as numbers
abbrev pub numbers_of : List MemberId → List ℕ
numbers_of places = map (λ p. p.0) places

-- the parents of each member, as numbers
abbrev pub parents_in : List (List MemberId) → List (List ℕ)
parents_in parents = map numbers_of parents

-- no piece has a fault, and the members that the pieces name are one more member's parents
abbrev pub AddsParents : List (List ℕ) → List (List ℕ) → List (List MemberId) → List (List MemberId) → Type 0
AddsParents ids pieces old new =
    (pieces_fault ids pieces ≡ None) × (parents_in new ≡ parents_in old ++ map (parent_read ids) pieces ∷ [])

-- the first fault of a field of parents, whatever stands before it
abbrev pub field_fault : List (List ℕ) → List (List ℕ) → List ℕ → Option InstanceKind
field_fault ids before field = pieces_fault ids (pieces_of field)

-- the parents that a field tells
abbrev pub field_read : List (List ℕ) → List ℕ → List ℕ
field_read ids field = map (parent_read ids) (pieces_of field)

-- no field has a fault, and these are the parents that each tells
abbrev pub FieldsPass : List (List ℕ) → List (List ℕ) → List (List ℕ) → Type 0
FieldsPass ids fields parents =
    (first_fault (field_fault ids) [] fields ≡ None) × (parents ≡ map (field_read ids) fields)

-- no record has a fault in its parents, and these are the parents of each
abbrev pub PassesSecond : List (List ℕ) → List (List (List ℕ)) → List (List ℕ) → Type 0
PassesSecond ids rows parents =
    (first_fault (parents_fault ids) [] rows ≡ None) × (parents ≡ map (parents_read ids) rows)
