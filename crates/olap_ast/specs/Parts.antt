-- Instances in parts, each checked separately.
--     IsPartOf                  an instance is a part of another
--     AreParts                  parts that have all members between them
--     LegalExactlyIfPartsAre    an instance is legal exactly if its parts are
use Rattle.std.specs.Prelude.{◌≡◌, ℕ, ◌<◌, ◌↔◌, List, All, Contains, length, map}
use Rattle.olap_base.specs.Instance.{Instance, Member, IsBelow, IsInstance, IsMember, member_at}
use Rattle.olap_ast.specs.Schema.{Schema, IsLegal}

-- a member of a part as it stands in the whole, where its parents have other places
abbrev pub in_whole : (ℕ → ℕ) → Member → Member
in_whole place m = record { id = m.id; category = m.category; name = m.name; parents = map place m.parents }

-- j has some members of i, in file order, and of each of them all parents: `place` says where they stand in i
pub record IsPartOf (i j : Instance) (place : ℕ → ℕ) : Type 0 where
  pub some : 0 < length j
  pub ordered : (x y : ℕ) → x < y → IsMember j y → place x < place y
  pub member : (x : ℕ) → IsMember j x → IsMember i (place x)
  pub same : (x : ℕ) → IsMember j x → member_at i (place x) ≡ in_whole place (member_at j x)
  pub parents : (x y : ℕ) → IsBelow j x y → IsMember j y

-- a member of i stands in the part
pub record StandsIn (i : Instance) (x : ℕ) (j : Instance) : Type 0 where
  pub place : ℕ → ℕ
  pub part : IsPartOf i j place
  pub at : ℕ
  pub member : IsMember j at
  pub same : place at ≡ x

-- each of them is a part of i, and each member of i stands in one of them
pub record AreParts (i : Instance) (parts : List Instance) : Type 0 where
  pub each : All (λ j. (place : ℕ → ℕ) × IsPartOf i j place) parts
  pub all : (x : ℕ) → IsMember i x → (j : Instance) × Contains parts j × StandsIn i x j

-- so whether members are legal can be asked of parts: only that they are an instance, as that no id stands twice, is
-- asked of all of them together
abbrev pub LegalExactlyIfPartsAre : Type 0
LegalExactlyIfPartsAre = (s : Schema) (i : Instance) (parts : List Instance) → IsInstance i → AreParts i parts
    → IsLegal s i ↔ All (IsLegal s) parts
