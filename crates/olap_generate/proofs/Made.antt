-- The members of the made input by their places: stores, cities, states of both kinds, provinces, regions of both
-- kinds, countries, and `all`.
use Rattle.std.specs.List.{range_with_len}
use Rattle.std.specs.Prelude.{ℕ, ◌+◌, ◌-◌, ◌*◌, ◌/◌, ◌%◌, ◌==◌, List, [], ◌∷◌, ◌++◌, codes, map, if◌then◌else◌}
use Rattle.olap_base.specs.{Instance.{Instance, Member}, Views.Fact}
use Rattle.olap_instance.specs.Members.{all_member}
use Rattle.olap_generate.specs.Members.{city_name, groups, numbered, step, value}
use Rattle.olap_generate.specs.Location as location

-- a member with one parent
abbrev pub below : List ℕ → ℕ → List ℕ → ℕ → Member
below id category name parent = record { id = id; category = category; name = name; parents = parent ∷ [] }

-- a member whose name is its id
abbrev pub plain : List ℕ → ℕ → ℕ → Member
plain id category parent = below id category id parent

module _ (seed size : ℕ) where
  abbrev pub g : ℕ
  g = groups size

  -- the places at which the groups begin, after the stores
  abbrev pub cities : ℕ
  cities = size

  abbrev pub states : ℕ
  states = size + 4 * g

  abbrev pub mexican_states : ℕ
  mexican_states = size + 5 * g

  abbrev pub provinces : ℕ
  provinces = size + 6 * g

  abbrev pub mexican_regions : ℕ
  mexican_regions = size + 7 * g

  abbrev pub canadian_regions : ℕ
  canadian_regions = size + 8 * g

  abbrev pub usa : ℕ
  usa = size + 9 * g

  abbrev pub canada : ℕ
  canada = size + 9 * g + 1

  abbrev pub mexico : ℕ
  mexico = size + 9 * g + 2

  abbrev pub top : ℕ
  top = size + 9 * g + 3

  -- the i-th store, counted from 1
  abbrev pub store_of : ℕ → Member
  store_of i = plain (numbered (codes "s") i) location.store (cities + step seed i % (4 * g))

  -- where a city lies
  abbrev pub above_city : ℕ → ℕ
  above_city j =
      if j % 4 == 0 then usa
      else if j % 4 == 1 then states + j / 4
      else if j % 4 == 2 then mexican_states + j / 4
      else provinces + j / 4

  abbrev pub city_of : ℕ → Member
  city_of j = below (numbered (codes "c") j) location.city (city_name j) (above_city j)

  -- a state of the USA, and one that lies in a region of Mexico
  abbrev pub state_of : ℕ → Member
  state_of k = plain (numbered (codes "a") k) location.state usa

  abbrev pub mexican_state_of : ℕ → Member
  mexican_state_of k = plain (numbered (codes "b") k) location.state (mexican_regions + k)

  -- a province in a region of Canada
  abbrev pub province_of : ℕ → Member
  province_of k = plain (numbered (codes "p") k) location.province (canadian_regions + k)

  abbrev pub mexican_region_of : ℕ → Member
  mexican_region_of k = plain (numbered (codes "m") k) location.region mexico

  abbrev pub canadian_region_of : ℕ → Member
  canadian_region_of k = plain (numbered (codes "n") k) location.region canada

  -- the three countries, and `all`
  abbrev pub last_members : Instance
  last_members =
      below (codes "usa") location.country (codes "USA") top
      ∷ below (codes "can") location.country (codes "Canada") top
      ∷ below (codes "mex") location.country (codes "Mexico") top
      ∷ all_member
      ∷ []

  -- all of them
  abbrev pub made : Instance
  made =
      map store_of (range_with_len 1 size)
      ++ map city_of (range_with_len 0 (4 * g))
      ++ map state_of (range_with_len 0 g)
      ++ map mexican_state_of (range_with_len 0 g)
      ++ map province_of (range_with_len 0 g)
      ++ map mexican_region_of (range_with_len 0 g)
      ++ map canadian_region_of (range_with_len 0 g)
      ++ last_members

  -- the i-th store's fact, and all facts
  abbrev pub fact_of : ℕ → Fact ℕ
  fact_of i = record { at = i - 1; value = value seed i }

  abbrev pub made_facts : List (Fact ℕ)
  made_facts = map fact_of (range_with_len 1 size)
