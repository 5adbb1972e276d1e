-- Below what each made member stands, and that the made instance is lawful.
--     Standing, standing   each member with its way up
--     made_is_lawful       the five laws
use Rattle.std.proofs.Common.{◌≡◌, ◌+◌, ◌*◌, ◌/◌, ◌%◌, ◌<◌, ◌⊎◌, inl, inr, ℕ, [], ◌∷◌, codes, refl, ap, sym, ◌∙◌, arith}
use Rattle.std.{proofs.lemmas.Bool.{eq-eqb, ne_eqb}, specs.Prelude.{◌≢◌, slice_index}}
use Rattle.olap_base.specs.Instance.{Instance, IsLawful, IsMember, Member, category_of, member_at, name_of, parents_of}
use Rattle.olap_generate.proofs.Location.{location_falls, location_graph, rank}
use Rattle.olap_generate.proofs.Made.{above_city, canada, canadian_regions, cities, made, mexican_regions, mexican_states, mexico, provinces, states, top, usa}
use Rattle.olap_generate.proofs.OneParent.{IsPlaced, IsPlaced.at_top, IsPlaced.below_one, IsUnder, lawful_if_placed}
use Rattle.olap_generate.proofs.Places.{Place, Place.of_store, Place.of_city, Place.of_state, Place.of_mexican_state, Place.of_province, Place.of_mexican_region, Place.of_canadian_region, Place.of_usa, Place.of_canada, Place.of_mexico, Place.of_all, at_store, at_city, at_state, at_mexican_state, at_province, at_mexican_region, at_canadian_region, at_usa, at_canada, at_mexico, at_all, place}
use Rattle.olap_generate.specs.Location.{city, country, province, region, state, store}
use Rattle.olap_generate.specs.Members.{city_name, groups, numbered, step}

-- where the members of two places are known, and the one names the other as its parent
under : (i : Instance) (x p : ℕ) (m n : Member) → member_at i x ≡ m → member_at i p ≡ n → m.parents ≡ p ∷ []
    → IsUnder i x p m.category n.category
under i x p m n e q u = record {
  category = ap (λ (k : Member). k.category) e;
  parents = ap (λ (k : Member). k.parents) e ∙ u;
  above = ap (λ (k : Member). k.category) q;
}

-- ---- cities

-- no id of a city is `Washington`
not_washington : (j : ℕ) → numbered (codes "c") j ≢ codes "Washington"
not_washington j e = let q : ◌≡◌ {A = ℕ} 99 87 = ap (λ t. slice_index t 0) e in omega arith

-- which of four cities in a row
four : (j : ℕ) → (j % 4 ≡ 0) ⊎ ((j % 4 ≡ 1) ⊎ ((j % 4 ≡ 2) ⊎ (j % 4 ≡ 3)))
four j = grind arith

-- the name of a city that isn't a fourth one
other_name : (j : ℕ) → j % 4 ≢ 0 → city_name j ≢ codes "Washington"
other_name j n = rw (ne_eqb (j % 4) 0 n) (not_washington j)

-- the name of a fourth one
first_name : (j : ℕ) → j % 4 ≡ 0 → city_name j ≡ codes "Washington"
first_name j e = rw (eq-eqb (j % 4) 0 e) refl

-- ---- the ways up

-- a made member with what it stands below
pub data Standing (seed size x : ℕ) : Type 0 where
  a_store : (p : ℕ) → IsUnder (made seed size) x p store city → Standing seed size x
  a_washington : IsUnder (made seed size) x (usa seed size) city country
      → name_of (made seed size) x ≡ codes "Washington" → Standing seed size x
  a_state_city : (p : ℕ) → IsUnder (made seed size) x p city state
      → name_of (made seed size) x ≢ codes "Washington" → Standing seed size x
  a_province_city : (p : ℕ) → IsUnder (made seed size) x p city province
      → name_of (made seed size) x ≢ codes "Washington" → Standing seed size x
  a_state : IsUnder (made seed size) x (usa seed size) state country → Standing seed size x
  a_mexican_state : (p : ℕ) → IsUnder (made seed size) x p state region
      → IsUnder (made seed size) p (mexico seed size) region country → Standing seed size x
  a_province : (p : ℕ) → IsUnder (made seed size) x p province region
      → IsUnder (made seed size) p (canada seed size) region country → Standing seed size x
  a_region : (p : ℕ) → IsUnder (made seed size) x p region country → Standing seed size x
  a_country : IsUnder (made seed size) x (top seed size) country 0 → Standing seed size x
  the_top : category_of (made seed size) x ≡ 0 → parents_of (made seed size) x ≡ [] → Standing seed size x

module _ (seed size : ℕ) where
  abbrev i : Instance
  i = made seed size

  above_first : (j : ℕ) → j % 4 ≡ 0 → above_city seed size j ≡ usa seed size
  above_first j e = rw (eq-eqb (j % 4) 0 e) refl

  above_second : (j : ℕ) → j % 4 ≡ 1 → above_city seed size j ≡ states seed size + j / 4
  above_second j e = rw (ne_eqb (j % 4) 0 (omega arith), eq-eqb (j % 4) 1 e) refl

  above_third : (j : ℕ) → j % 4 ≡ 2 → above_city seed size j ≡ mexican_states seed size + j / 4
  above_third j e = rw (ne_eqb (j % 4) 0 (omega arith), ne_eqb (j % 4) 1 (omega arith), eq-eqb (j % 4) 2 e) refl

  above_fourth : (j : ℕ) → j % 4 ≡ 3 → above_city seed size j ≡ provinces seed size + j / 4
  above_fourth j e =
      rw (ne_eqb (j % 4) 0 (omega arith), ne_eqb (j % 4) 1 (omega arith), ne_eqb (j % 4) 2 (omega arith)) refl

  city_name_is : (j : ℕ) → j < 4 * groups size → name_of i (cities seed size + j) ≡ city_name j
  city_name_is j l = ap (λ (m : Member). m.name) (at_city seed size j l)

  stands_city : (j : ℕ) → j < 4 * groups size → Standing seed size (cities seed size + j)
  stands_city j l = elim (four j) [
    | inl e ↦ a_washington
        (under i _ _ _ _ (at_city seed size j l) (at_usa seed size) (ap (λ p. p ∷ []) (above_first j e)))
        (city_name_is j l ∙ first_name j e)
    | inr (inl e) ↦ a_state_city (states seed size + j / 4)
        (under i _ _ _ _ (at_city seed size j l) (at_state seed size (j / 4) (omega arith))
        (ap (λ p. p ∷ []) (above_second j e)))
        (other j l (omega arith))
    | inr (inr (inl e)) ↦ a_state_city (mexican_states seed size + j / 4)
        (under i _ _ _ _ (at_city seed size j l) (at_mexican_state seed size (j / 4) (omega arith))
        (ap (λ p. p ∷ []) (above_third j e)))
        (other j l (omega arith))
    | inr (inr (inr e)) ↦ a_province_city (provinces seed size + j / 4)
        (under i _ _ _ _ (at_city seed size j l) (at_province seed size (j / 4) (omega arith))
        (ap (λ p. p ∷ []) (above_fourth j e)))
        (other j l (omega arith))
  ]
    where
      other : (k : ℕ) → k < 4 * groups size → k % 4 ≢ 0 → name_of i (cities seed size + k) ≢ codes "Washington"
      other k h n q = other_name k n (sym (city_name_is k h) ∙ q)

  -- the city that is drawn for a store
  drawn : (k : ℕ) → step seed k % (4 * groups size) < 4 * groups size
  drawn k = omega arith

  mexican_region_under : (k : ℕ) → k < groups size
      → IsUnder i (mexican_regions seed size + k) (mexico seed size) region country
  mexican_region_under k l = under i _ _ _ _ (at_mexican_region seed size k l) (at_mexico seed size) refl

  canadian_region_under : (k : ℕ) → k < groups size
      → IsUnder i (canadian_regions seed size + k) (canada seed size) region country
  canadian_region_under k l = under i _ _ _ _ (at_canadian_region seed size k l) (at_canada seed size) refl

  stands : (x : ℕ) → Place seed size x → Standing seed size x
  stands x (of_store k l) =
      a_store _ (under i _ _ _ _ (at_store seed size k l) (at_city seed size _ (drawn (k + 1))) refl)
  stands x (of_city j l) = stands_city j l
  stands x (of_state k l) = a_state (under i _ _ _ _ (at_state seed size k l) (at_usa seed size) refl)
  stands x (of_mexican_state k l) =
      a_mexican_state (mexican_regions seed size + k)
      (under i _ _ _ _ (at_mexican_state seed size k l) (at_mexican_region seed size k l) refl)
      (mexican_region_under k l)
  stands x (of_province k l) =
      a_province (canadian_regions seed size + k)
      (under i _ _ _ _ (at_province seed size k l) (at_canadian_region seed size k l) refl)
      (canadian_region_under k l)
  stands x (of_mexican_region k l) = a_region (mexico seed size) (mexican_region_under k l)
  stands x (of_canadian_region k l) = a_region (canada seed size) (canadian_region_under k l)
  stands x of_usa = a_country (under i _ _ _ _ (at_usa seed size) (at_all seed size) refl)
  stands x of_canada = a_country (under i _ _ _ _ (at_canada seed size) (at_all seed size) refl)
  stands x of_mexico = a_country (under i _ _ _ _ (at_mexico seed size) (at_all seed size) refl)
  stands x of_all =
      the_top (ap (λ (m : Member). m.category) (at_all seed size)) (ap (λ (m : Member). m.parents) (at_all seed size))

  pub standing : (x : ℕ) → IsMember i x → Standing seed size x
  standing x l = stands x (place seed size x l)

  -- ---- the laws

  -- each stands one edge below its parent
  placed : (x : ℕ) → Standing seed size x → IsPlaced location_graph i x
  placed x (a_store p u) = below_one p store city u (0, omega arith, refl)
  placed x (a_washington u n) = below_one _ city country u (3, omega arith, refl)
  placed x (a_state_city p u n) = below_one p city state u (1, omega arith, refl)
  placed x (a_province_city p u n) = below_one p city province u (2, omega arith, refl)
  placed x (a_state u) = below_one _ state country u (5, omega arith, refl)
  placed x (a_mexican_state p u v) = below_one p state region u (4, omega arith, refl)
  placed x (a_province p u v) = below_one p province region u (6, omega arith, refl)
  placed x (a_region p u) = below_one p region country u (7, omega arith, refl)
  placed x (a_country u) = below_one _ country 0 u (8, omega arith, refl)
  placed x (the_top e q) = at_top e q

  pub made_is_lawful : IsLawful location_graph i
  made_is_lawful = lawful_if_placed location_graph i rank location_falls (λ x l. placed x (standing x l))
