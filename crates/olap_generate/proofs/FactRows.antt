-- The records of the made facts' text: they have no fault and stand for the facts.
use Rattle.std.proofs.Common.{◌≡◌, ◌≢◌, ◌+◌, ◌-◌, ◌<◌, ◌≤◌, ◌^◌, ◌==◌, ◌∙◌, Bool, true, false, cond, ℕ, ℤ, pos, negsuc, suc, List, [], length, map, take, drop, get_or, slice_index, ltb, Some, None, Ok, refl, sym, ap, subst, arith}
use Rattle.std.proofs.lemmas.List.{get_or-map, length-map, length-take-le, Elements.All-map}
use Rattle.std.proofs.lemmas.List.FromFn.{get_or-map-range_with_len, length-map-range_with_len}
use Rattle.std.proofs.lemmas.Option.{get_or_from_slice_get, slice_get_within}
use Rattle.std.{proofs.lemmas.Slice.Eq.{bytes_eq-Decides, slice_eq-Decides}, specs.Cmp.Lexicographic.pointwise}
use Rattle.std.specs.{Fmt.signed_decimal, Int.Signed.mag, List.range_with_len, Prelude.{All, nat_le}, Str.bytes_eq}
use Rattle.olap_base.{proofs.ListLemmas.{Contains-from_map, Contains-from_range_at}, specs.Graph.IsBottom}
use Rattle.olap_base.specs.Instance.{Instance, IsMember, Member, category_of, nobody}
use Rattle.olap_base.specs.{Limits.{most_facts, most_generated}, Naming.place_of, Views.{Fact, IsFactTable}}
use Rattle.olap_records.proofs.{FaultLemmas.none-iff, Printed.printed, ReadingBack.text-back}
use Rattle.olap_records.specs.{Faults.{field, first_fault}, Records.records_of, Tables.begins_with, Texts.text_of_rows}
use Rattle.olap_numerals.{proofs.Spelling.{i64-decides, is_i64}, specs.Values.value_of}
use Rattle.olap_instance.proofs.{Passing.all-full, PlaceFacts.{AreDistinct, place-of-id}}
use Rattle.olap_instance.specs.Members.{member_named}
use Rattle.olap_facts.{proofs.BottomLemmas.bottom-is, proofs.MeaningLemmas.meant-facts, specs.FactMeaning.facts_meant}
use Rattle.olap_facts.specs.FactText.{fact_fault_within, fact_read, facts_read_within, header, is_bottom}
use Rattle.olap_generate.proofs.{Location.location_graph, Made.{fact_of, made, made_facts}}
use Rattle.olap_generate.proofs.{Places.{at_store, length_made}, Rows.map-numbers, Sound.sound_instance}
use Rattle.olap_generate.specs.Members.{fact_row, fact_rows, step, value}
use Rattle.olap_generate.specs.Location as location

-- ---- the values

-- a value has at most three digits
pub value-mag : (seed i : ℕ) → mag (value seed i) < 1000
value-mag seed i = either (ltb (step seed i) 500)
  where
    either : (b : Bool) → mag (cond b (negsuc (500 - suc (step seed i))) (pos (step seed i - 500))) < 1000
    either true = omega arith
    either false = omega arith

-- a small number has 64 bits
small-fits : (z : ℤ) → mag z < 1000 → is_i64 z ≡ true
small-fits (pos n) l = let h : n < 2 ^ 63 = omega arith in (i64-decides (pos n)).1 (record { sfits = h })
small-fits (negsuc n) l = let h : n < 2 ^ 63 = omega arith in (i64-decides (negsuc n)).1 (record { sfits = h })

-- a value's text spells it
value-spelled : (seed i : ℕ) → value_of (signed_decimal (value seed i)) ≡ Some (value seed i)
value-spelled seed i =
    let l = value-mag seed i in printed is_i64 (value seed i) (small-fits (value seed i) l) (omega arith)

-- ---- a record

-- a record that names a member of a bottom category and spells a number has no fault, if there is room
module _ (i : Instance) (r : List (List ℕ)) (p : ℕ) (v : ℤ) (named : member_named i (field r 0) ≡ Some p)
    (spelled : value_of (field r 1) ≡ Some v) where
  row-passes : (before : List (List (List ℕ))) → (length r == 2) ≡ true
      → is_bottom location_graph (category_of i p) ≡ true → nat_le most_facts (length before) ≡ false
      → fact_fault_within most_facts location_graph i before r ≡ None
  row-passes before two bottom room = rw (two, named, bottom, spelled, room) refl

  row-read : fact_read i r ≡ record { at = p; value = v }
  row-read = rw (named, spelled) refl

-- ---- all of them

-- records without faults stand for their facts
read-of : (i : Instance) (records : List (List (List ℕ))) (facts : List (Fact ℕ)) → begins_with header records ≡ true
    → first_fault (fact_fault_within most_facts location_graph i) [] (drop 1 records) ≡ None
    → map (fact_read i) (drop 1 records) ≡ facts → facts_read_within most_facts location_graph i records ≡ Ok facts
read-of i records facts h first e = rw (h, first) (ap (λ (t : List (Fact ℕ)). Ok t) e)

module _ (seed size : ℕ) where
  -- the records after the header
  abbrev rows : List (List (List ℕ))
  rows = map (fact_row seed) (range_with_len 1 size)

  count : length rows ≡ size
  count = length-map-range_with_len (fact_row seed) 1 size

  row-at : (j : ℕ) → j < size → get_or rows j [] ≡ fact_row seed (j + 1)
  row-at j l = get_or-map-range_with_len (fact_row seed) 1 size j (j + 1) [] l (omega arith)

  -- ---- their text

  -- each record has a field
  pub fact_rows_full : All (λ r. 0 < length r) (fact_rows seed size)
  fact_rows_full =
      all-full header rows (omega arith)
      (All-map (λ r. 0 < length r) (fact_row seed) (range_with_len 1 size) (λ k d l. omega arith))

  -- the text doesn't begin as a byte order mark does
  pub fact_rows_unmarked : slice_index (text_of_rows (fact_rows seed size)) 0 ≢ 239
  fact_rows_unmarked e = omega arith

  -- the text reads back
  pub fact_rows_read_back : records_of (text_of_rows (fact_rows seed size)) ≡ fact_rows seed size
  fact_rows_read_back = text-back (fact_rows seed size) fact_rows_full fact_rows_unmarked

  module _ (few : size ≤ most_generated) where
    -- ---- the stores

    ids-distinct : AreDistinct (map (λ m. m.id) (made seed size))
    ids-distinct a b la lb e =
        let n = length-map (made seed size) (λ m. m.id) in
        let ma : a < length (made seed size) = omega arith in
        let mb : b < length (made seed size) = omega arith in
        (sound_instance seed size few).ids_differ a b ma mb
        (sym (get_or-map (λ m. m.id) (made seed size) a nobody [] ma) ∙ e
        ∙ get_or-map (λ m. m.id) (made seed size) b nobody [] mb)

    is-member : (k : ℕ) → k < size → IsMember (made seed size) k
    is-member k l = let n = length_made seed size in omega arith

    -- each store is found by its id
    store-named : (k : ℕ) → k < size → member_named (made seed size) (field (fact_row seed (k + 1)) 0) ≡ Some k
    store-named k l =
        let n = length-map (made seed size) (λ m. m.id) in
        let m = is-member k l in
        ap (λ (x : List ℕ). place_of x (map (λ m. m.id) (made seed size)))
        (sym (get_or-map (λ m. m.id) (made seed size) k nobody [] m
        ∙ ap (λ (m : Member). m.id) (at_store seed size k l)))
        ∙ place-of-id (map (λ m. m.id) (made seed size)) k ids-distinct (omega arith)

    store-category : (k : ℕ) → k < size → category_of (made seed size) k ≡ location.store
    store-category k l = ap (λ (m : Member). m.category) (at_store seed size k l)

    -- ---- what the records stand for

    passes : (j : ℕ) → j < size
        → fact_fault_within most_facts location_graph (made seed size) (take j rows) (fact_row seed (j + 1)) ≡ None
    passes j l =
        let n = count in
        let m = length-take-le j rows (omega arith) in
        row-passes (made seed size) (fact_row seed (j + 1)) j (value seed (j + 1)) (store-named j l)
        (value-spelled seed (j + 1)) (take j rows) refl (ap (is_bottom location_graph) (store-category j l))
        (room (length (take j rows)) (omega arith))
      where
        room : (k : ℕ) → k < most_facts → nat_le most_facts k ≡ false
        room k h = grind arith

    -- no record has a fault, and they are read as the facts
    no-fault : first_fault (fact_fault_within most_facts location_graph (made seed size)) [] rows ≡ None
    no-fault = (none-iff (fact_fault_within most_facts location_graph (made seed size)) rows).1 (λ j r e.
        let n = count in
        let l : j < size = let k = slice_get_within rows j r e in omega arith in
        let is : fact_row seed (j + 1) ≡ r = sym (row-at j l) ∙ get_or_from_slice_get rows j r [] e in
        subst (λ (t : List (List ℕ)).
        fact_fault_within most_facts location_graph (made seed size) (take j rows) t ≡ None) is (passes j l))

    facts-read : map (fact_read (made seed size)) rows ≡ made_facts seed size
    facts-read = map-numbers (fact_read (made seed size)) (fact_row seed) (fact_of seed size) 1 size (λ k l u.
        let e : (k - 1) + 1 ≡ k = omega arith in
        let named : member_named (made seed size) (field (fact_row seed k) 0) ≡ Some (k - 1) =
        ap (λ n. member_named (made seed size) (field (fact_row seed n) 0)) (sym e)
        ∙ store-named (k - 1) (omega arith) in
        row-read (made seed size) (fact_row seed k) (k - 1) (value seed k) named (value-spelled seed k))

    header-there : begins_with header (fact_rows seed size) ≡ true
    header-there = (slice_eq-Decides bytes_eq-Decides header header (pointwise bytes_eq header header) refl).1 refl

    -- the records stand for the facts
    pub fact_rows_stand : facts_meant most_facts location_graph (made seed size) (fact_rows seed size)
        ≡ Ok (made_facts seed size)
    fact_rows_stand =
        meant-facts most_facts location_graph (made seed size) (fact_rows seed size) (made_facts seed size)
        (read-of (made seed size) (fact_rows seed size) (made_facts seed size) header-there no-fault facts-read)

    -- each fact stands at a store
    pub facts_made : IsFactTable location_graph (made seed size) (made_facts seed size)
    facts_made f c =
        let at = Contains-from_map (fact_of seed size) (range_with_len 1 size) f c in
        let within = Contains-from_range_at 1 size at.0 at.1 in
        subst (λ (f : Fact ℕ). IsMember (made seed size) f.at
        × IsBottom location_graph (category_of (made seed size) f.at)) at.2 (
          is-member (at.0 - 1) (omega arith),
          subst (IsBottom location_graph) (sym (store-category (at.0 - 1) (omega arith)))
              ((bottom-is location_graph location.store).0 refl),
        )
