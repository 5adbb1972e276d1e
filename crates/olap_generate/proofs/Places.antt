-- Which member stands at each place of the made instance, and that there are no other places.
--     at_store ..      the member at a place of a group, by the group
use Rattle.std.proofs.Common.{◌≡◌, ◌+◌, ◌*◌, ◌-◌, ◌<◌, ◌≤◌, ◌++◌, ◌∙◌, ◌⊎◌, ℕ, List, length, map, codes, refl, sym, ap, subst, arith, inl, inr}
use Rattle.std.proofs.lemmas.List.{append_assoc, length-append, get_or_append_left, get_or-append-add}
use Rattle.std.proofs.lemmas.List.FromFn.{get_or-map-range_with_len, length-map-range_with_len}
use Rattle.std.specs.List.{range_with_len}
use Rattle.olap_base.specs.Instance.{Instance, IsMember, Member, member_at, nobody}
use Rattle.olap_instance.specs.Members.{all_member}
use Rattle.olap_generate.proofs.Made.{below, canada, canadian_region_of, canadian_regions, cities, city_of, last_members, made, mexican_region_of, mexican_regions, mexican_state_of, mexican_states, mexico, province_of, provinces, state_of, states, store_of, top, usa}
use Rattle.olap_generate.specs.Members.{groups}
use Rattle.olap_generate.specs.Location as location

-- ---- a group, and what stands after it

module _ (f : ℕ → Member) (a n : ℕ) (rest : Instance) where
  abbrev joined : Instance
  joined = map f (range_with_len a n) ++ rest

  -- the members of the group
  in_group : (k j : ℕ) → k < n → a + k ≡ j → member_at joined k ≡ f j
  in_group k j l e =
      let long = length-map-range_with_len f a n in
      get_or_append_left (map f (range_with_len a n)) rest nobody k (omega arith)
      ∙ get_or-map-range_with_len f a n k j nobody l e

  -- the members after it
  behind_group : (k : ℕ) → member_at joined (n + k) ≡ member_at rest k
  behind_group k =
      let long = length-map-range_with_len f a n in
      let at : n + k ≡ length (map f (range_with_len a n)) + k = omega arith in
      ap (member_at joined) at ∙ get_or-append-add (map f (range_with_len a n)) rest k nobody

  length-joined : length joined ≡ n + length rest
  length-joined =
      let long = length-map-range_with_len f a n in
      let parts = length-append (map f (range_with_len a n)) rest in
      omega arith

-- ---- the groups

-- eight lists one after the other
pub regroup : {A : Type 0} (a b c d e f g h : List A)
    → a ++ b ++ c ++ d ++ e ++ f ++ g ++ h ≡ a ++ (b ++ (c ++ (d ++ (e ++ (f ++ (g ++ h))))))
regroup a b c d e f g h = simp append_assoc

module _ (seed size : ℕ) where
  abbrev g : ℕ
  g = groups size

  -- the members from a group on
  abbrev from_canadian_regions : Instance
  from_canadian_regions = map (canadian_region_of seed size) (range_with_len 0 g) ++ last_members seed size

  abbrev from_mexican_regions : Instance
  from_mexican_regions = map (mexican_region_of seed size) (range_with_len 0 g) ++ from_canadian_regions

  abbrev from_provinces : Instance
  from_provinces = map (province_of seed size) (range_with_len 0 g) ++ from_mexican_regions

  abbrev from_mexican_states : Instance
  from_mexican_states = map (mexican_state_of seed size) (range_with_len 0 g) ++ from_provinces

  abbrev from_states : Instance
  from_states = map (state_of seed size) (range_with_len 0 g) ++ from_mexican_states

  abbrev from_cities : Instance
  from_cities = map (city_of seed size) (range_with_len 0 (4 * g)) ++ from_states

  from_stores : made seed size ≡ map (store_of seed size) (range_with_len 1 size) ++ from_cities
  from_stores =
      regroup (map (store_of seed size) (range_with_len 1 size))
      (map (city_of seed size) (range_with_len 0 (4 * g)))
      (map (state_of seed size) (range_with_len 0 g))
      (map (mexican_state_of seed size) (range_with_len 0 g))
      (map (province_of seed size) (range_with_len 0 g))
      (map (mexican_region_of seed size) (range_with_len 0 g))
      (map (canadian_region_of seed size) (range_with_len 0 g))
      (last_members seed size)

  -- how many members there are
  pub length_made : length (made seed size) ≡ size + 9 * groups size + 4
  length_made =
      ap length from_stores
      ∙ length-joined (store_of seed size) 1 size from_cities
      ∙ sums (length-joined (city_of seed size) 0 (4 * g) from_states)
      (length-joined (state_of seed size) 0 g from_mexican_states)
      (length-joined (mexican_state_of seed size) 0 g from_provinces)
      (length-joined (province_of seed size) 0 g from_mexican_regions)
      (length-joined (mexican_region_of seed size) 0 g from_canadian_regions)
      (length-joined (canadian_region_of seed size) 0 g (last_members seed size))
    where
      sums : {a b c d e f : ℕ} → a ≡ 4 * g + b → b ≡ g + c → c ≡ g + d → d ≡ g + e → e ≡ g + f → f ≡ g + 4
          → size + a ≡ size + 9 * g + 4
      sums p q r s t u = omega arith

  -- what stands after each group
  behind_stores : (k x : ℕ) → size + k ≡ x → member_at (made seed size) x ≡ member_at from_cities k
  behind_stores k x e =
      ap (λ i. member_at i x) from_stores
      ∙ ap (member_at (joined (store_of seed size) 1 size from_cities)) (sym e)
      ∙ behind_group (store_of seed size) 1 size from_cities k

  behind_cities : (k x : ℕ) → states seed size + k ≡ x → member_at (made seed size) x ≡ member_at from_states k
  behind_cities k x e =
      behind_stores (4 * g + k) x (omega arith) ∙ behind_group (city_of seed size) 0 (4 * g) from_states k

  behind_states : (k x : ℕ) → mexican_states seed size + k ≡ x
      → member_at (made seed size) x ≡ member_at from_mexican_states k
  behind_states k x e =
      behind_cities (g + k) x (omega arith) ∙ behind_group (state_of seed size) 0 g from_mexican_states k

  behind_mexican_states : (k x : ℕ) → provinces seed size + k ≡ x
      → member_at (made seed size) x ≡ member_at from_provinces k
  behind_mexican_states k x e =
      behind_states (g + k) x (omega arith) ∙ behind_group (mexican_state_of seed size) 0 g from_provinces k

  behind_provinces : (k x : ℕ) → mexican_regions seed size + k ≡ x
      → member_at (made seed size) x ≡ member_at from_mexican_regions k
  behind_provinces k x e =
      behind_mexican_states (g + k) x (omega arith) ∙ behind_group (province_of seed size) 0 g from_mexican_regions k

  behind_mexican_regions : (k x : ℕ) → canadian_regions seed size + k ≡ x
      → member_at (made seed size) x ≡ member_at from_canadian_regions k
  behind_mexican_regions k x e =
      behind_provinces (g + k) x (omega arith)
      ∙ behind_group (mexican_region_of seed size) 0 g from_canadian_regions k

  behind_canadian_regions : (k x : ℕ) → usa seed size + k ≡ x
      → member_at (made seed size) x ≡ member_at (last_members seed size) k
  behind_canadian_regions k x e =
      behind_mexican_regions (g + k) x (omega arith)
      ∙ behind_group (canadian_region_of seed size) 0 g (last_members seed size) k

  -- the members of each group
  pub at_store : (k : ℕ) → k < size → member_at (made seed size) k ≡ store_of seed size (k + 1)
  at_store k l =
      ap (λ i. member_at i k) from_stores ∙ in_group (store_of seed size) 1 size from_cities k (k + 1) l (omega arith)

  pub at_city : (j : ℕ) → j < 4 * groups size → member_at (made seed size) (cities seed size + j) ≡ city_of seed size j
  at_city j l = behind_stores j (size + j) refl ∙ in_group (city_of seed size) 0 (4 * g) from_states j j l (omega arith)

  pub at_state : (k : ℕ) → k < groups size → member_at (made seed size) (states seed size + k) ≡ state_of seed size k
  at_state k l =
      behind_cities k (states seed size + k) refl
      ∙ in_group (state_of seed size) 0 g from_mexican_states k k l (omega arith)

  pub at_mexican_state : (k : ℕ) → k < groups size
      → member_at (made seed size) (mexican_states seed size + k) ≡ mexican_state_of seed size k
  at_mexican_state k l =
      behind_states k (mexican_states seed size + k) refl
      ∙ in_group (mexican_state_of seed size) 0 g from_provinces k k l (omega arith)

  pub at_province : (k : ℕ) → k < groups size
      → member_at (made seed size) (provinces seed size + k) ≡ province_of seed size k
  at_province k l =
      behind_mexican_states k (provinces seed size + k) refl
      ∙ in_group (province_of seed size) 0 g from_mexican_regions k k l (omega arith)

  pub at_mexican_region : (k : ℕ) → k < groups size
      → member_at (made seed size) (mexican_regions seed size + k) ≡ mexican_region_of seed size k
  at_mexican_region k l =
      behind_provinces k (mexican_regions seed size + k) refl
      ∙ in_group (mexican_region_of seed size) 0 g from_canadian_regions k k l (omega arith)

  pub at_canadian_region : (k : ℕ) → k < groups size
      → member_at (made seed size) (canadian_regions seed size + k) ≡ canadian_region_of seed size k
  at_canadian_region k l =
      behind_mexican_regions k (canadian_regions seed size + k) refl
      ∙ in_group (canadian_region_of seed size) 0 g (last_members seed size) k k l (omega arith)

  pub at_usa : member_at (made seed size) (usa seed size)
      ≡ below (codes "usa") location.country (codes "USA") (top seed size)
  at_usa = behind_canadian_regions 0 (usa seed size) (omega arith)

  pub at_canada : member_at (made seed size) (canada seed size)
      ≡ below (codes "can") location.country (codes "Canada") (top seed size)
  at_canada = behind_canadian_regions 1 (canada seed size) (omega arith)

  pub at_mexico : member_at (made seed size) (mexico seed size)
      ≡ below (codes "mex") location.country (codes "Mexico") (top seed size)
  at_mexico = behind_canadian_regions 2 (mexico seed size) (omega arith)

  pub at_all : member_at (made seed size) (top seed size) ≡ all_member
  at_all = behind_canadian_regions 3 (top seed size) (omega arith)

-- ---- each place

-- a place of the made instance, by its group
pub data Place (seed size : ℕ) : ℕ → Type 0 where
  of_store : (k : ℕ) → k < size → Place seed size k
  of_city : (j : ℕ) → j < 4 * groups size → Place seed size (cities seed size + j)
  of_state : (k : ℕ) → k < groups size → Place seed size (states seed size + k)
  of_mexican_state : (k : ℕ) → k < groups size → Place seed size (mexican_states seed size + k)
  of_province : (k : ℕ) → k < groups size → Place seed size (provinces seed size + k)
  of_mexican_region : (k : ℕ) → k < groups size → Place seed size (mexican_regions seed size + k)
  of_canadian_region : (k : ℕ) → k < groups size → Place seed size (canadian_regions seed size + k)
  of_usa : Place seed size (usa seed size)
  of_canada : Place seed size (canada seed size)
  of_mexico : Place seed size (mexico seed size)
  of_all : Place seed size (top seed size)

module _ (seed size : ℕ) where
  -- each place from s on
  abbrev EachFrom : ℕ → Type 0
  EachFrom s = (x : ℕ) → s ≤ x → x < size + 9 * groups size + 4 → Place seed size x

  -- those of a group, and those after it
  group_and_behind : (s n t : ℕ) → s + n ≡ t → ((k : ℕ) → k < n → Place seed size (s + k)) → EachFrom t → EachFrom s
  group_and_behind s n t e here behind x a b = elim (cut x t) [
    | inl l ↦ subst (Place seed size) (omega arith) (here (x - s) (omega arith))
    | inr l ↦ behind x l b
  ]
    where
      cut : (y u : ℕ) → (y < u) ⊎ (u ≤ y)
      cut y u = grind arith

  -- one place, and those after it
  one_and_behind : (s t : ℕ) → s + 1 ≡ t → Place seed size s → EachFrom t → EachFrom s
  one_and_behind s t e here behind =
      group_and_behind s 1 t e (λ k l. subst (Place seed size) (omega arith) here) behind

  each_from_usa : EachFrom (usa seed size)
  each_from_usa =
      one_and_behind (usa seed size) (canada seed size) refl of_usa
      (one_and_behind (canada seed size) (mexico seed size) (omega arith) of_canada
      (one_and_behind (mexico seed size) (top seed size) (omega arith) of_mexico
      (one_and_behind (top seed size) (usa seed size + 4) (omega arith) of_all (λ x a b. absurd (omega arith)))))

  each_from_provinces : EachFrom (provinces seed size)
  each_from_provinces =
      group_and_behind (provinces seed size) (groups size) (mexican_regions seed size) (omega arith) of_province
      (group_and_behind (mexican_regions seed size) (groups size) (canadian_regions seed size) (omega arith)
      of_mexican_region
      (group_and_behind (canadian_regions seed size) (groups size) (usa seed size) (omega arith) of_canadian_region
      each_from_usa))

  each_from_cities : EachFrom (cities seed size)
  each_from_cities =
      group_and_behind (cities seed size) (4 * groups size) (states seed size) (omega arith) of_city
      (group_and_behind (states seed size) (groups size) (mexican_states seed size) (omega arith) of_state
      (group_and_behind (mexican_states seed size) (groups size) (provinces seed size) (omega arith) of_mexican_state
      each_from_provinces))

  -- every place is one of a group's
  pub place : (x : ℕ) → IsMember (made seed size) x → Place seed size x
  place x l =
      let long = length_made seed size in
      group_and_behind 0 size size (omega arith) (λ k b. subst (Place seed size) (omega arith) (of_store k b))
      each_from_cities x (omega arith) (omega arith)
