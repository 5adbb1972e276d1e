-- The inside of a roster.
use Rattle.std.specs.Prelude.{◌≡◌, ◌≤◌, ◌^◌, ◌∷◌, [], ℕ, List, length, map}
use Rattle.olap_base.specs.Instance.{Instance}
use Rattle.olap_instance.specs.Members.{childless}
use Rattle.olap_instance.specs.declared.rosters.Roster.TheInside.{Inside}

-- members of these ids, categories and names, one of each, without parents
abbrev pub members_from : List (List ℕ) → List ℕ → List (List ℕ) → Instance
members_from [] categories names = []
members_from (id ∷ ids) [] names = []
members_from (id ∷ ids) (c ∷ categories) [] = []
members_from (id ∷ ids) (c ∷ categories) (name ∷ names) = childless id c name ∷ members_from ids categories names

-- the members that a roster stands for, without parents
abbrev pub members_of_roster : Inside → Instance
members_of_roster a = members_from a.ids.keys (map (λ c. c.0) a.categories.items) a.names

-- what a roster keeps: as many categories and names as ids, and few
pub record IsRoster (a : Inside) : Type 0 where
  pub categories : length a.categories.items ≡ length a.ids.keys
  pub names : length a.names ≡ length a.ids.keys
  pub few : length a.ids.keys ≤ 2 ^ 32
