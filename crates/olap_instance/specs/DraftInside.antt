-- The inside of a builder of instances.
--     number_of, parents_told    a parent's place, and those of all parents
--     draft_of                   what a builder stands for
--     IsKept                     its invariant
use Rattle.std.specs.Prelude.{ℕ, List, map, Option, Vec}
use Rattle.std.specs.Global.{Global}
use Rattle.std.specs.Option.{option_map}
use Rattle.olap_base.specs.declared.ids.MemberId.{MemberId}
use Rattle.olap_instance.specs.Drafts.{Draft, IsDraft}
use Rattle.olap_instance.specs.declared.building.InstanceBuilder.TheInside.{Inside}

-- a parent's place, where it isn't `all`
abbrev pub number_of : Option MemberId → Option ℕ
number_of p = option_map (λ m. m.0) p

-- the parents of each member, by their places
abbrev pub parents_told : List (Vec (Option MemberId) Global) → List (List (Option ℕ))
parents_told parents = map (λ ps. map number_of ps.items) parents

-- what a builder stands for
abbrev pub draft_of : Inside → Draft
draft_of a = record {
  categories = a.categories;
  numbers = a.numbers.items;
  members = a.roster;
  parents = parents_told a.parents.items;
}

-- the invariant of a builder: it stands for a draft
abbrev pub IsKept : Inside → Type 0
IsKept a = IsDraft (draft_of a)
