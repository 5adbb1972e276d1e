-- The made members are a dimension instance within the limits, with texts that a file can hold.
--     sound_instance   ids and parents differ, parents are members, and `all` is the last
use Rattle.std.proofs.Common.{◌≡◌, ◌≢◌, ◌+◌, ◌*◌, ◌/◌, ◌%◌, ◌<◌, ◌≤◌, ◌^◌, ◌==◌, ◌∷◌, ◌∙◌, ◌↔◌, ◌⊎◌, Bool, true, false, cond, ℕ, suc, List, [], length, codes, decimal, refl, sym, ap, subst, arith, inl, inr, mod-lt}
use Rattle.std.{proofs.lemmas.List.get_or_past, specs.Prelude.{AllPairs, Contains}}
use Rattle.olap_base.{proofs.ListLemmas.Contains-nil, specs.Deciding.{below_is_member, contains_cases}}
use Rattle.olap_base.specs.Instance.{IsInstance, IsMember, Member, member_at, nobody, parents_of, category_of}
use Rattle.olap_base.specs.Limits.{most_generated, most_members}
use Rattle.olap_instance.specs.Made.{IsMadeFor}
use Rattle.olap_instance.specs.Members.{AllHasNoParents, HasShortNames, HasTexts, IsMemberId, all_member}
use Rattle.olap_generate.proofs.Ids.{numbered_id, numbered_place, place_told, told_by_number, worded_id}
use Rattle.olap_generate.proofs.Location.{location_graph, no_numbers}
use Rattle.olap_generate.proofs.Made.{above_city, below, canada, canadian_regions, cities, made, mexican_regions, mexican_states, mexico, plain, provinces, states, top, usa}
use Rattle.olap_generate.proofs.Places.{Place, Place.of_all, Place.of_canada, Place.of_canadian_region, Place.of_city, Place.of_mexican_region, Place.of_mexican_state, Place.of_mexico, Place.of_province, Place.of_state, Place.of_store, Place.of_usa, at_all, at_canada, at_canadian_region, at_city, at_mexican_region, at_mexican_state, at_mexico, at_province, at_state, at_store, at_usa, length_made, place}
use Rattle.olap_generate.specs.Members.{city_name, groups, numbered, step}
use Rattle.olap_generate.specs.Location as location

-- ---- one parent

-- the only parent of a list is it
one_parent : (p y : ℕ) → Contains (p ∷ []) y → p ≡ y
one_parent p y c = elim (contains_cases y p [] c) [ inl e ↦ e | inr n ↦ absurd (Contains-nil y n) ]

-- one parent differs from all others
one_differs : (p : ℕ) → AllPairs ◌≢◌ (p ∷ [])
one_differs p i j d a b = absurd (omega arith)

-- no parents differ
none_differ : AllPairs {X = ℕ} ◌≢◌ []
none_differ i j d a b = absurd (omega arith)

-- ---- a member

-- every name is of a category's, or the id
pub city_name_id : (j : ℕ) → j < 2 ^ 64 → IsMemberId (city_name j)
city_name_id j l = either (j % 4 == 0)
  where
    either : (b : Bool) → IsMemberId (cond b (codes "Washington") (numbered (codes "c") j))
    either true = worded_id (codes "Washington") refl refl (omega arith) (omega arith)
    either false = numbered_id 99 j (omega arith) (λ e. omega arith) l

module _ (seed size : ℕ) where
  -- the member tells its place by its id, its texts are ones that a file can hold, its parents are members and
  -- differ, and exactly the last one is `all`
  pub record IsSoundAt (x : ℕ) (m : Member) : Type 0 where
    pub told : place_told seed size m.id ≡ x
    pub id : IsMemberId m.id
    pub name : IsMemberId m.name
    pub category : m.category < 7
    pub last : (m.category ≡ 0) ↔ (x ≡ top seed size)
    pub parents : (y : ℕ) → Contains m.parents y → y ≤ top seed size
    pub differ : AllPairs ◌≢◌ m.parents

  -- a member with a parent
  sound_below : (x : ℕ) (id name : List ℕ) (category parent : ℕ) → place_told seed size id ≡ x → IsMemberId id
      → IsMemberId name → 0 < category → category < 7 → x < top seed size → parent ≤ top seed size
      → IsSoundAt x (below id category name parent)
  sound_below x id name category parent told good good_name some few within above = record {
    told = told;
    id = good;
    name = good_name;
    category = few;
    last = (λ e. absurd (omega arith), λ e. absurd (omega arith));
    parents = λ y c. let e = one_parent parent y c in omega arith;
    differ = one_differs parent;
  }

  -- a member of a letter's group, with a parent
  sound_numbered : (x letter k category parent : ℕ) → letter < 128 → letter ≢ 59 → k < 2 ^ 64
      → numbered_place seed size letter k ≡ x → 0 < category → category < 7 → x < top seed size
      → parent ≤ top seed size → IsSoundAt x (plain (letter ∷ decimal k) category parent)
  sound_numbered x letter k category parent ascii other small told some few within above =
      let id = numbered_id letter k ascii other small in
      sound_below x (letter ∷ decimal k) (letter ∷ decimal k) category parent
      (told_by_number seed size letter k small ∙ told) id id some few within above

  -- a country
  sound_country : (x : ℕ) (id name : List ℕ) → place_told seed size id ≡ x → IsMemberId id → IsMemberId name
      → x < top seed size → IsSoundAt x (below id location.country name (top seed size))
  sound_country x id name told good good_name within =
      sound_below x id name location.country (top seed size) told good good_name (omega arith) (omega arith) within
      (omega arith)

  sound_all : IsSoundAt (top seed size) all_member
  sound_all =
      let id = worded_id (codes "all") refl refl (omega arith) (omega arith) in record {
        told = refl;
        id = id;
        name = id;
        category = omega arith;
        last = (λ e. refl, λ e. refl);
        parents = λ y c. absurd (Contains-nil y c);
        differ = none_differ;
      }

  -- a city's parent is a member
  city_below : (j : ℕ) → j < 4 * groups size → above_city seed size j ≤ top seed size
  city_below j l = each (j % 4 == 0) (j % 4 == 1) (j % 4 == 2)
    where
      each : (a b c : Bool) → cond a (usa seed size) (cond b (states seed size + j / 4)
          (cond c (mexican_states seed size + j / 4) (provinces seed size + j / 4))) ≤ top seed size
      each true b c = omega arith
      each false true c = omega arith
      each false false true = omega arith
      each false false false = omega arith

  -- a store's parent is a city
  pub store_below : (i : ℕ) → step seed i % (4 * groups size) < 4 * groups size
  store_below i = let some : 0 < 4 * groups size = omega arith in mod-lt (step seed i) some

  module _ (few : size ≤ most_generated) where
    sound_at : {x : ℕ} → Place seed size x → IsSoundAt x (member_at (made seed size) x)
    sound_at (of_store k l) =
        subst (IsSoundAt k) (sym (at_store seed size k l))
        (let b = store_below (k + 1) in
        sound_numbered k 115 (k + 1) location.store (cities seed size + step seed (k + 1) % (4 * groups size))
        (omega arith) (λ e. omega arith) (omega arith) (omega arith) (omega arith) (omega arith) (omega arith)
        (omega arith))
    sound_at (of_city j l) =
        subst (IsSoundAt (cities seed size + j)) (sym (at_city seed size j l))
        (let small : j < 2 ^ 64 = omega arith in
        sound_below (cities seed size + j) (99 ∷ decimal j) (city_name j) location.city (above_city seed size j)
        (told_by_number seed size 99 j small) (numbered_id 99 j (omega arith) (λ e. omega arith) small)
        (city_name_id j small) (omega arith) (omega arith) (omega arith) (city_below j l))
    sound_at (of_state k l) =
        subst (IsSoundAt (states seed size + k)) (sym (at_state seed size k l))
        (sound_numbered (states seed size + k) 97 k location.state (usa seed size)
        (omega arith) (λ e. omega arith) (omega arith) refl (omega arith) (omega arith) (omega arith) (omega arith))
    sound_at (of_mexican_state k l) =
        subst (IsSoundAt (mexican_states seed size + k)) (sym (at_mexican_state seed size k l))
        (sound_numbered (mexican_states seed size + k) 98 k location.state (mexican_regions seed size + k)
        (omega arith) (λ e. omega arith) (omega arith) refl (omega arith) (omega arith) (omega arith) (omega arith))
    sound_at (of_province k l) =
        subst (IsSoundAt (provinces seed size + k)) (sym (at_province seed size k l))
        (sound_numbered (provinces seed size + k) 112 k location.province (canadian_regions seed size + k)
        (omega arith) (λ e. omega arith) (omega arith) refl (omega arith) (omega arith) (omega arith) (omega arith))
    sound_at (of_mexican_region k l) =
        subst (IsSoundAt (mexican_regions seed size + k)) (sym (at_mexican_region seed size k l))
        (sound_numbered (mexican_regions seed size + k) 109 k location.region (mexico seed size)
        (omega arith) (λ e. omega arith) (omega arith) refl (omega arith) (omega arith) (omega arith) (omega arith))
    sound_at (of_canadian_region k l) =
        subst (IsSoundAt (canadian_regions seed size + k)) (sym (at_canadian_region seed size k l))
        (sound_numbered (canadian_regions seed size + k) 110 k location.region (canada seed size)
        (omega arith) (λ e. omega arith) (omega arith) refl (omega arith) (omega arith) (omega arith) (omega arith))
    sound_at of_usa =
        subst (IsSoundAt (usa seed size)) (sym (at_usa seed size))
        (sound_country (usa seed size) (codes "usa") (codes "USA") refl
        (worded_id (codes "usa") refl refl (omega arith) (omega arith))
        (worded_id (codes "USA") refl refl (omega arith) (omega arith)) (omega arith))
    sound_at of_canada =
        subst (IsSoundAt (canada seed size)) (sym (at_canada seed size))
        (sound_country (canada seed size) (codes "can") (codes "Canada") refl
        (worded_id (codes "can") refl refl (omega arith) (omega arith))
        (worded_id (codes "Canada") refl refl (omega arith) (omega arith)) (omega arith))
    sound_at of_mexico =
        subst (IsSoundAt (mexico seed size)) (sym (at_mexico seed size))
        (sound_country (mexico seed size) (codes "mex") (codes "Mexico") refl
        (worded_id (codes "mex") refl refl (omega arith) (omega arith))
        (worded_id (codes "Mexico") refl refl (omega arith) (omega arith)) (omega arith))
    sound_at of_all = subst (IsSoundAt (top seed size)) (sym (at_all seed size)) sound_all

    pub sound_member : (x : ℕ) → IsMember (made seed size) x → IsSoundAt x (member_at (made seed size) x)
    sound_member x l = sound_at (place seed size x l)

    -- ---- all of them

    -- past the end there is no parent
    all_differ : (x : ℕ) → AllPairs ◌≢◌ (parents_of (made seed size) x)
    all_differ x = elim (within x (length (made seed size))) [
      | inl l ↦ (sound_member x l).differ
      | inr l ↦ subst (λ (m : Member). AllPairs ◌≢◌ m.parents) (sym (get_or_past (made seed size) x nobody l))
          none_differ
    ]
      where
        within : (y n : ℕ) → (y < n) ⊎ (n ≤ y)
        within y n = grind arith

    last_is_top : (x : ℕ) → suc x ≡ length (made seed size) → x ≡ top seed size
    last_is_top x e = let n = length_made seed size in omega arith

    last_at : (x : ℕ) → suc x ≡ length (made seed size) → member_at (made seed size) x ≡ all_member
    last_at x e = ap (member_at (made seed size)) (last_is_top x e) ∙ at_all seed size

    pub sound_instance : IsInstance (made seed size)
    sound_instance = record {
      ids_differ = λ x y a b e.
          sym (sound_member x a).told ∙ ap (place_told seed size) e ∙ (sound_member y b).told;
      parents_are_members = λ x y c.
          let n = length_made seed size in
          let l = (sound_member x (below_is_member (made seed size) x y c)).parents y c in
          omega arith;
      parents_differ = all_differ;
      some_member = let n = length_made seed size in omega arith;
      all_is_last = λ x l.
          let n = length_made seed size in
          let h = (sound_member x l).last in
          (λ e. let t = h.0 e in omega arith, λ e. h.1 (last_is_top x e));
      all_id = λ x e. ap (λ (m : Member). m.id) (last_at x e);
      all_name = λ x e. ap (λ (m : Member). m.name) (last_at x e);
    }

    pub sound_texts : HasTexts (made seed size)
    sound_texts x l = ((sound_member x l).id, (sound_member x l).name.utf8)

    pub short_names : HasShortNames (made seed size)
    short_names x l = (sound_member x l).name.short

    pub top_without_parents : AllHasNoParents (made seed size)
    top_without_parents x e = ap (λ (m : Member). m.parents) (last_at x e)

    pub few_members : length (made seed size) ≤ most_members
    few_members = let n = length_made seed size in omega arith

    pub made_for_location : IsMadeFor location_graph (made seed size)
    made_for_location = record {
      categories = λ x l. (sound_member x l).category;
      numerals = λ x l b. absurd (no_numbers (category_of (made seed size) x) b);
    }
