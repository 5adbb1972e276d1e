-- Instances in the making: what holds of them at each moment, and why a member or a parent is refused.
--     Draft             the members so far, and their parents
--     IsDraft           what holds of a draft at each moment
--     member_refusal    the first reason to refuse a member
--     named_refusal     the same, where the name may have any length
--     HasParent         a member has that parent
--     instance_built    the instance that a draft becomes
use Rattle.std.specs.Prelude.{◌≡◌, ◌≢◌, ◌<◌, ◌≤◌, ◌+◌, ◌==◌, ◌||◌, ◌∷◌, ◌++◌, ℕ, Bool, false, List, [], length, map, codes, AllPairs, Contains, Option, Some, None, IsSome, IsTrue, is_some, unwrap_or, if◌then◌else◌, nat_le, slice_index_or, slice_set}
use Rattle.std.specs.Str.{bytes_eq}
use Rattle.olap_base.specs.Graph.{Graph, category_count}
use Rattle.olap_base.specs.Instance.{Instance, category_of, member_at, name_of}
use Rattle.olap_base.specs.Limits.{most_members}
use Rattle.olap_base.specs.Naming.{place_of}
use Rattle.olap_numerals.specs.Numerals.{number_of}
use Rattle.olap_instance.specs.InstanceText.{is_bad_id, is_bad_number, is_too_long}
use Rattle.olap_instance.specs.Members.{HasTexts, all_member, childless, with_parents}
use Rattle.olap_instance.specs.declared.refusals.MemberFault.{MemberFault}
use Rattle.olap_instance.specs.declared.refusals.MemberFault.TheVariants as of_member

-- how many categories the graph has, whether the names of each are numbers, the members so far without their parents,
-- and the parents of each. A parent is a member by its place, or `None` for `all`, which has no place before the last
-- member is there.
pub record Draft : Type 0 where
  pub categories : ℕ
  pub numbers : List Bool
  pub members : Instance
  pub parents : List (List (Option ℕ))

-- the parents that the member has so far
abbrev pub parents_so_far : Draft → ℕ → List (Option ℕ)
parents_so_far d x = slice_index_or d.parents x []

-- for each category whether names are numbers, `All` first
abbrev pub numbers_in : Graph → List Bool
numbers_in g = false ∷ g.numbers

-- whether the names of the category are numbers
abbrev pub has_numbers : Draft → ℕ → Bool
has_numbers d c = slice_index_or d.numbers c false

-- p is a parent of the member x
abbrev pub HasParent : Draft → ℕ → Option ℕ → Type 0
HasParent d x p = Contains (parents_so_far d x) p

-- what holds of a draft at each moment
pub record IsDraft (d : Draft) : Type 0 where
  pub kinds_known : length d.numbers ≡ d.categories
  pub as_many : length d.members ≡ length d.parents
  pub few : length d.members + 1 ≤ most_members
  pub ids_differ : (x y : ℕ) → x < length d.members → y < length d.members
      → (member_at d.members x).id ≡ (member_at d.members y).id → x ≡ y
  pub not_all : (x : ℕ) → x < length d.members → (member_at d.members x).id ≢ codes "all"
  pub declared : (x : ℕ) → x < length d.members
      → (category_of d.members x ≢ 0) × (category_of d.members x < d.categories)
  pub numerals : (x : ℕ) → x < length d.members → IsTrue (has_numbers d (category_of d.members x))
      → IsSome (number_of (name_of d.members x))
  pub texts : HasTexts d.members
  pub parents_are_members : (x y : ℕ) → HasParent d x (Some y) → y < length d.members
  pub parents_differ : (x : ℕ) → AllPairs ◌≢◌ (parents_so_far d x)

-- no members, for a graph
abbrev pub no_members : Graph → Draft
no_members g = record { categories = category_count g; numbers = numbers_in g; members = []; parents = [] }

-- the draft with one more member, which has no parents yet
abbrev pub with_member : Draft → List ℕ → ℕ → List ℕ → Draft
with_member d id category name =
    record d { members = d.members ++ childless id category name ∷ []; parents = d.parents ++ [] ∷ [] }

-- the draft where p is one more parent of the member x, after the others
abbrev pub with_parent : Draft → ℕ → Option ℕ → Draft
with_parent d x p = record d { parents = slice_set d.parents x (parents_so_far d x ++ p ∷ []) }

-- the first reason to refuse a member that lies in its category or in the other members
abbrev pub place_refusal : Draft → List ℕ → ℕ → List ℕ → Option MemberFault
place_refusal d id category name =
    if category == 0 then Some of_member.RowForAll
    else if is_bad_number (has_numbers d category) name then Some of_member.BadNumber
    else if bytes_eq id (codes "all") || is_some (place_of id (map (λ m. m.id) d.members)) then Some
    of_member.DuplicateId
    else if nat_le most_members (length d.members + 1) then Some of_member.TooManyMembers
    else None

-- the first reason to refuse a member
abbrev pub member_refusal : Draft → List ℕ → ℕ → List ℕ → Option MemberFault
member_refusal d id category name =
    if is_bad_id id then Some of_member.BadId
    else if is_too_long id || is_too_long name then Some of_member.TextTooLong
    else place_refusal d id category name

-- the first reason to refuse a member whose name may have any length
abbrev pub named_refusal : Draft → List ℕ → ℕ → List ℕ → Option MemberFault
named_refusal d id category name =
    if is_bad_id id then Some of_member.BadId
    else if is_too_long id then Some of_member.TextTooLong
    else place_refusal d id category name

-- the parents as places, where `all` comes after this many members
abbrev pub places_of : ℕ → List (Option ℕ) → List ℕ
places_of count parents = map (λ p. unwrap_or p count) parents

-- the instance that a draft becomes: its members with their parents, and `all`
abbrev pub instance_built : Draft → Instance
instance_built d = with_parents (d.members ++ all_member ∷ []) (map (places_of (length d.members)) d.parents ++ [] ∷ [])
