-- The records of the made instance's text: they are the records of the instance, so they stand for it.
use Rattle.std.proofs.Common.{◌≡◌, ◌≢◌, ◌+◌, ◌*◌, ◌-◌, ◌/◌, ◌%◌, ◌<◌, ◌≤◌, ◌==◌, ◌++◌, ◌∷◌, ◌∙◌, Bool, true, false, cond, ℕ, zero, suc, List, [], length, map, codes, slice_index, Ok, refl, sym, ap, subst, arith}
use Rattle.std.{proofs.lemmas.List.{append_assoc, length-append, map-append, take_at}, specs.List.range_with_len}
use Rattle.std.specs.Prelude.{All}
use Rattle.olap_base.specs.{Graph.IsHierarchy, Instance.{Instance, Member, member_at}, Limits.most_generated}
use Rattle.olap_graph.specs.Lookups.{name_of_category}
use Rattle.olap_records.{proofs.ReadingBack.text-back, specs.Records.records_of, specs.Texts.text_of_rows}
use Rattle.olap_instance.proofs.{Passing.{all-full, rows-full}, ReadBack.reads-back}
use Rattle.olap_instance.specs.{InstanceText.{header, instance_read}, Members.all_member}
use Rattle.olap_instance.specs.Printing.{instance_rows, member_fields, others}
use Rattle.olap_generate.proofs.Location.{location_graph}
use Rattle.olap_generate.proofs.Made.{above_city, below, canada, canadian_region_of, cities, city_of, made, mexican_region_of, mexican_state_of, mexican_states, mexico, province_of, provinces, state_of, states, store_of, top, usa}
use Rattle.olap_generate.proofs.Places.{at_all, at_canada, at_canadian_region, at_city, at_mexican_region, at_mexican_state, at_mexico, at_province, at_state, at_usa}
use Rattle.olap_generate.proofs.Sound.{few_members, made_for_location, short_names, sound_instance, sound_texts, store_below, top_without_parents}
use Rattle.olap_generate.specs.Members.{canadian_region_row, city_name, city_parent, city_row, country_rows, groups, member_rows, mexican_region_row, mexican_state_row, numbered, province_row, state_row, step, store_row}
use Rattle.olap_generate.specs.Location as location

-- ---- lists

-- a list that is made number by number, changed element by element
pub map-numbers : {A B : Type 0} (h : A → B) (f : ℕ → A) (r : ℕ → B) (a n : ℕ)
    → ((k : ℕ) → a ≤ k → k < a + n → h (f k) ≡ r k) → map h (map f (range_with_len a n)) ≡ map r (range_with_len a n)
map-numbers h f r a zero e = refl
map-numbers {B} h f r a (suc n) e =
    cons (e a (omega arith) (omega arith))
    (map-numbers h f r (a + 1) n (λ k l u. e k (omega arith) (omega arith)))
  where
    cons : {x y : B} {xs ys : List B} → x ≡ y → xs ≡ ys → x ∷ xs ≡ y ∷ ys
    cons p q = λ j. p j ∷ q j

-- ---- the records

module _ (seed size : ℕ) where
  abbrev g : ℕ
  g = groups size

  -- a member's record
  abbrev fields : Member → List (List ℕ)
  fields = member_fields location_graph (made seed size)

  -- a member's record by its parent's id
  fields-below : (id name : List ℕ) (category parent : ℕ) (above : List ℕ)
      → (member_at (made seed size) parent).id ≡ above
      → fields (below id category name parent) ≡ id ∷ name_of_category location_graph category ∷ name ∷ above ∷ []
  fields-below id name category parent above e =
      ap (λ (t : List ℕ). id ∷ name_of_category location_graph category ∷ name ∷ t ∷ []) e

  -- a member's id
  abbrev id_of : Member → List ℕ
  id_of m = m.id

  -- the id of a city's parent
  above-city : (j : ℕ) → j < 4 * groups size → (member_at (made seed size) (above_city seed size j)).id ≡ city_parent j
  above-city j l = each (j % 4 == 0) (j % 4 == 1) (j % 4 == 2)
    where
      each : (a b c : Bool) → (member_at (made seed size) (cond a (usa seed size) (cond b (states seed size + j / 4)
          (cond c (mexican_states seed size + j / 4) (provinces seed size + j / 4))))).id
          ≡ cond a (codes "usa") (cond b (numbered (codes "a") (j / 4)) (cond c (numbered (codes "b") (j / 4))
          (numbered (codes "p") (j / 4))))
      each true b c = ap id_of (at_usa seed size)
      each false true c = ap id_of (at_state seed size (j / 4) (omega arith))
      each false false true = ap id_of (at_mexican_state seed size (j / 4) (omega arith))
      each false false false = ap id_of (at_province seed size (j / 4) (omega arith))

  -- the records of each group
  stores : map fields (map (store_of seed size) (range_with_len 1 size))
      ≡ map (store_row seed size) (range_with_len 1 size)
  stores = map-numbers fields (store_of seed size) (store_row seed size) 1 size (λ i l u.
      fields-below (numbered (codes "s") i) (numbered (codes "s") i) location.store
      (cities seed size + step seed i % (4 * g)) (numbered (codes "c") (step seed i % (4 * g)))
      (ap id_of (at_city seed size (step seed i % (4 * g)) (store_below seed size i))))

  all_cities : map fields (map (city_of seed size) (range_with_len 0 (4 * g))) ≡ map city_row (range_with_len 0 (4 * g))
  all_cities = map-numbers fields (city_of seed size) city_row 0 (4 * g) (λ j l u.
      fields-below (numbered (codes "c") j) (city_name j) location.city (above_city seed size j) (city_parent j)
      (above-city j (omega arith)))

  all_states : map fields (map (state_of seed size) (range_with_len 0 g)) ≡ map state_row (range_with_len 0 g)
  all_states = map-numbers fields (state_of seed size) state_row 0 g (λ k l u.
      fields-below (numbered (codes "a") k) (numbered (codes "a") k) location.state (usa seed size) (codes "usa")
      (ap id_of (at_usa seed size)))

  all_mexican_states : map fields (map (mexican_state_of seed size) (range_with_len 0 g))
      ≡ map mexican_state_row (range_with_len 0 g)
  all_mexican_states = map-numbers fields (mexican_state_of seed size) mexican_state_row 0 g (λ k l u.
      fields-below (numbered (codes "b") k) (numbered (codes "b") k) location.state _ (numbered (codes "m") k)
      (ap id_of (at_mexican_region seed size k (omega arith))))

  all_provinces : map fields (map (province_of seed size) (range_with_len 0 g)) ≡ map province_row (range_with_len 0 g)
  all_provinces = map-numbers fields (province_of seed size) province_row 0 g (λ k l u.
      fields-below (numbered (codes "p") k) (numbered (codes "p") k) location.province _ (numbered (codes "n") k)
      (ap id_of (at_canadian_region seed size k (omega arith))))

  all_mexican_regions : map fields (map (mexican_region_of seed size) (range_with_len 0 g))
      ≡ map mexican_region_row (range_with_len 0 g)
  all_mexican_regions = map-numbers fields (mexican_region_of seed size) mexican_region_row 0 g (λ k l u.
      fields-below (numbered (codes "m") k) (numbered (codes "m") k) location.region (mexico seed size) (codes "mex")
      (ap id_of (at_mexico seed size)))

  all_canadian_regions : map fields (map (canadian_region_of seed size) (range_with_len 0 g))
      ≡ map canadian_region_row (range_with_len 0 g)
  all_canadian_regions = map-numbers fields (canadian_region_of seed size) canadian_region_row 0 g (λ k l u.
      fields-below (numbered (codes "n") k) (numbered (codes "n") k) location.region (canada seed size) (codes "can")
      (ap id_of (at_canada seed size)))

  -- the three countries
  abbrev countries : Instance
  countries =
      below (codes "usa") location.country (codes "USA") (top seed size)
      ∷ below (codes "can") location.country (codes "Canada") (top seed size)
      ∷ below (codes "mex") location.country (codes "Mexico") (top seed size)
      ∷ []

  all_countries : map fields countries ≡ country_rows
  all_countries = λ j. of (codes "usa") (codes "USA") j ∷ of (codes "can") (codes "Canada") j
      ∷ of (codes "mex") (codes "Mexico") j ∷ []
    where
      of : (id name : List ℕ) → fields (below id location.country name (top seed size))
          ≡ id ∷ codes "Country" ∷ name ∷ codes "all" ∷ []
      of id name = fields-below id name location.country (top seed size) (codes "all") (ap id_of (at_all seed size))

  -- all members but `all`
  abbrev groups_made : Instance
  groups_made =
      map (store_of seed size) (range_with_len 1 size)
      ++ map (city_of seed size) (range_with_len 0 (4 * g))
      ++ map (state_of seed size) (range_with_len 0 g)
      ++ map (mexican_state_of seed size) (range_with_len 0 g)
      ++ map (province_of seed size) (range_with_len 0 g)
      ++ map (mexican_region_of seed size) (range_with_len 0 g)
      ++ map (canadian_region_of seed size) (range_with_len 0 g)

  others-are : others (made seed size) ≡ groups_made ++ countries
  others-are =
      without_last (groups_made ++ countries) all_member (made seed size)
      (sym (append_assoc groups_made countries (all_member ∷ [])))
    where
      without_last : (front : Instance) (last : Member) (i : Instance) → i ≡ front ++ last ∷ [] → others i ≡ front
      without_last front last i e =
          ap others e
          ∙ take_at front (last ∷ []) (length (front ++ last ∷ []) - 1)
          (let n = length-append front (last ∷ []) in omega arith)

  -- the records are those of the instance
  pub rows_are : instance_rows location_graph (made seed size) ≡ member_rows seed size
  rows_are =
      ap (λ (i : Instance). header ∷ map fields i) others-are
      ∙ simp (
        map-append,
        stores,
        all_cities,
        all_states,
        all_mexican_states,
        all_provinces,
        all_mexican_regions,
        all_canadian_regions,
        all_countries,
      )

  -- ---- their text

  -- each record has a field
  pub rows_full : All (λ r. 0 < length r) (member_rows seed size)
  rows_full =
      subst (All (λ r. 0 < length r)) rows_are
      (all-full header (map fields (others (made seed size))) (omega arith)
      (rows-full location_graph (made seed size) (others (made seed size))))

  -- the text doesn't begin as a byte order mark does
  pub rows_unmarked : slice_index (text_of_rows (member_rows seed size)) 0 ≢ 239
  rows_unmarked e = omega arith

  -- the text reads back
  pub rows_read_back : records_of (text_of_rows (member_rows seed size)) ≡ member_rows seed size
  rows_read_back = text-back (member_rows seed size) rows_full rows_unmarked

  -- the records stand for the instance
  pub rows_stand : size ≤ most_generated → IsHierarchy location_graph
      → instance_read location_graph (member_rows seed size) ≡ Ok (made seed size)
  rows_stand few hierarchy =
      ap (instance_read location_graph) (sym rows_read_back)
      ∙ ap (λ rows. instance_read location_graph (records_of (text_of_rows rows))) (sym rows_are)
      ∙ reads-back location_graph (made seed size) hierarchy (sound_instance seed size few) (sound_texts seed size few)
      (few_members seed size few) (top_without_parents seed size few) (made_for_location seed size few)
      (short_names seed size few)
