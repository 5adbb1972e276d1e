-- Members with and without their parents, and the texts that they may have.
--     member_named, member_number   the member of an id, if there is one; or else the first
--     with_parents   members, each with its parents
--     HasTexts       each id of an instance is one that a field of parents can name, and each name is UTF-8
--     HasShortNames  each name is one that a file of members may hold
--     AllHasNoParents   `all` has no parents
use Rattle.std.specs.Prelude.{◌≡◌, ◌≢◌, ◌≤◌, ◌==◌, false, ℕ, suc, List, [], ◌∷◌, length, map, codes, IsTrue, Option, unwrap_or}
use Rattle.std.specs.List.{list_any}
use Rattle.std.specs.Str.{is_utf8}
use Rattle.olap_base.specs.Bytes.{semicolon}
use Rattle.olap_base.specs.Instance.{Instance, IsInstance, IsMember, Member, member_at, parents_of}
use Rattle.olap_base.specs.Limits.{most_members, most_text_bytes}
use Rattle.olap_base.specs.Naming.{place_of}

-- a member of that id, category and name, without parents
abbrev pub childless : List ℕ → ℕ → List ℕ → Member
childless id category name = record { id = id; category = category; name = name; parents = [] }

-- the member `all`
abbrev pub all_member : Member
all_member = childless (codes "all") 0 (codes "all")

-- the member whose id this is, if there is one
abbrev pub member_named : Instance → List ℕ → Option ℕ
member_named i id = place_of id (map (λ m. m.id) i)

-- that member, or else the first
abbrev pub member_number : Instance → List ℕ → ℕ
member_number i id = unwrap_or (member_named i id) 0

-- the members, each with the parents at its place
abbrev pub with_parents : Instance → List (List ℕ) → Instance
with_parents [] parents = []
with_parents (m ∷ ms) [] = []
with_parents (m ∷ ms) (ps ∷ parents) = record m { parents = ps } ∷ with_parents ms parents

-- at most as many bytes as an id or a name may have
abbrev pub IsShort : List ℕ → Type 0
IsShort text = length text ≤ most_text_bytes

-- short UTF-8, not empty, with no semicolon
pub record IsMemberId (id : List ℕ) : Type 0 where
  pub utf8 : IsTrue (is_utf8 id)
  pub short : IsShort id
  pub filled : length id ≢ 0
  pub whole : list_any (λ b. b == semicolon) id ≡ false

-- each id is one that a field of parents can name, and each name is UTF-8
abbrev pub HasTexts : Instance → Type 0
HasTexts i = (x : ℕ) → IsMember i x → IsMemberId (member_at i x).id × IsTrue (is_utf8 (member_at i x).name)

-- each name is short
abbrev pub HasShortNames : Instance → Type 0
HasShortNames i = (x : ℕ) → IsMember i x → IsShort (member_at i x).name

-- the last member, `all`, has no parents
abbrev pub AllHasNoParents : Instance → Type 0
AllHasNoParents i = (x : ℕ) → suc x ≡ length i → parents_of i x ≡ []

-- the members with these parents are a dimension instance within the bounds
pub record AreSound (ms : Instance) (parents : List (List ℕ)) : Type 0 where
  pub as_many : length ms ≡ length parents
  pub few : length ms ≤ most_members
  pub instance : IsInstance (with_parents ms parents)
  pub texts : HasTexts (with_parents ms parents)
  pub top : AllHasNoParents (with_parents ms parents)
