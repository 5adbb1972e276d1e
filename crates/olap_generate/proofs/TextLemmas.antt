-- The texts of records that are numbered, one record after the other.
use Rattle.std.proofs.Common.{◌≡◌, ℕ, zero, suc, ◌+◌, ◌*◌, arith, List, [], ◌∷◌, ◌++◌, ap, map, sym, ◌∙◌, append_assoc}
use Rattle.std.{proofs.lemmas.List.{append-nil, map-append}, specs.List.range_with_len}
use Rattle.olap_records.{proofs.ReadingBack.texts-push, specs.Texts.{text_of_row, text_of_rows}}
use Rattle.olap_instance.specs.InstanceText.{header}
use Rattle.olap_generate.specs.Members.{canadian_region_row, city_row, country_rows, mexican_region_row, mexican_state_row, named_row, province_row, state_row, store_row}
use Rattle.olap_view.proofs.StoreTextLemmas.{texts-append}

-- one number more
one_more : (start k : ℕ) → range_with_len start (k + 1) ≡ range_with_len start k ++ (start + k) ∷ []
one_more start k = let e : k + 1 ≡ suc k = omega arith in ap (range_with_len start) e ∙ last start k
  where
    last : (start k : ℕ) → range_with_len start (suc k) ≡ range_with_len start k ++ (start + k) ∷ []
    last start zero = let e : start ≡ start + 0 = omega arith in ap (λ (n : ℕ). n ∷ []) e
    last start (suc k) =
        let e : (start + 1) + k ≡ start + suc k = omega arith in
        ap (λ (ns : List ℕ). start ∷ ns) (last (start + 1) k
        ∙ ap (λ (n : ℕ). range_with_len (start + 1) k ++ n ∷ []) e)

-- after the records of k numbers from the start on comes that of the next number
pub rows_more : (row : ℕ → List (List ℕ)) (start k n : ℕ) → start + k ≡ n → (before old new : List ℕ)
    (next : List (List ℕ)) → next ≡ row n → old ≡ before ++ text_of_rows (map row (range_with_len start k))
    → new ≡ old ++ text_of_row next → new ≡ before ++ text_of_rows (map row (range_with_len start (k + 1)))
rows_more row start k n place before old new next is eo en =
    let so_far = map row (range_with_len start k) in
    let more : map row (range_with_len start (k + 1)) ≡ so_far ++ row n ∷ [] =
    ap (map row) (one_more start k) ∙ map-append row (range_with_len start k) ((start + k) ∷ [])
    ∙ ap (λ (m : ℕ). so_far ++ row m ∷ []) place in
    en ∙ ap (λ (t : List ℕ). t ++ text_of_row next) eo
    ∙ append_assoc before (text_of_rows so_far) (text_of_row next)
    ∙ ap (λ (t : List ℕ). before ++ t) (sym (texts-push so_far next)
    ∙ ap (λ (r : List (List ℕ)). text_of_rows (so_far ++ r ∷ [])) is
    ∙ ap text_of_rows (sym more))

-- after the records so far come those of a group
pub groups_more : (rows group : List (List (List ℕ))) (old new : List ℕ) → old ≡ text_of_rows rows
    → new ≡ old ++ text_of_rows group → new ≡ text_of_rows (rows ++ group)
groups_more rows group old new eo en =
    en ∙ ap (λ (t : List ℕ). t ++ text_of_rows group) eo ∙ sym (texts-append rows group)

-- the first record
pub header_first : (first : List (List ℕ)) (old new : List ℕ) → old ≡ [] → new ≡ old ++ text_of_row first
    → new ≡ text_of_rows (first ∷ [])
header_first first old new eo en =
    en ∙ ap (λ (t : List ℕ). t ++ text_of_row first) eo ∙ sym (append-nil (text_of_row first))

-- a record whose id, name and parent are these
pub same_row : (category id name parent as_id as_name as_parent : List ℕ) → id ≡ as_id → name ≡ as_name
    → parent ≡ as_parent → named_row id category name parent ≡ named_row as_id category as_name as_parent
same_row category id name parent as_id as_name as_parent e f g =
    ap (λ (x : List ℕ). named_row x category name parent) e
    ∙ ap (λ (x : List ℕ). named_row as_id category x parent) f
    ∙ ap (λ (x : List ℕ). named_row as_id category as_name x) g

-- all records of the members, if there are this many groups
abbrev pub rows_of_groups : ℕ → ℕ → ℕ → List (List (List ℕ))
rows_of_groups seed size g =
    header
    ∷ map (store_row seed size) (range_with_len 1 size)
    ++ map city_row (range_with_len 0 (4 * g))
    ++ map state_row (range_with_len 0 g)
    ++ map mexican_state_row (range_with_len 0 g)
    ++ map province_row (range_with_len 0 g)
    ++ map mexican_region_row (range_with_len 0 g)
    ++ map canadian_region_row (range_with_len 0 g)
    ++ country_rows

-- group by group
pub all_groups : (seed size g : ℕ) (t0 t1 t2 t3 t4 t5 t6 t7 t8 t9 : List ℕ) → t0 ≡ []
    → t1 ≡ t0 ++ text_of_row header
    → t2 ≡ t1 ++ text_of_rows (map (store_row seed size) (range_with_len 1 size))
    → t3 ≡ t2 ++ text_of_rows (map city_row (range_with_len 0 (4 * g)))
    → t4 ≡ t3 ++ text_of_rows (map state_row (range_with_len 0 g))
    → t5 ≡ t4 ++ text_of_rows (map mexican_state_row (range_with_len 0 g))
    → t6 ≡ t5 ++ text_of_rows (map province_row (range_with_len 0 g))
    → t7 ≡ t6 ++ text_of_rows (map mexican_region_row (range_with_len 0 g))
    → t8 ≡ t7 ++ text_of_rows (map canadian_region_row (range_with_len 0 g))
    → t9 ≡ t8 ++ text_of_rows country_rows
    → t9 ≡ text_of_rows (rows_of_groups seed size g)
all_groups seed size g t0 t1 t2 t3 t4 t5 t6 t7 t8 t9 e0 e1 e2 e3 e4 e5 e6 e7 e8 e9 =
    let stores = header ∷ map (store_row seed size) (range_with_len 1 size) in
    let cities = stores ++ map city_row (range_with_len 0 (4 * g)) in
    let states = cities ++ map state_row (range_with_len 0 g) in
    let mexican_states = states ++ map mexican_state_row (range_with_len 0 g) in
    let provinces = mexican_states ++ map province_row (range_with_len 0 g) in
    let mexican_regions = provinces ++ map mexican_region_row (range_with_len 0 g) in
    let regions = mexican_regions ++ map canadian_region_row (range_with_len 0 g) in
    let f1 = header_first header t0 t1 e0 e1 in
    let f2 = groups_more (header ∷ []) (map (store_row seed size) (range_with_len 1 size)) t1 t2 f1 e2 in
    let f3 = groups_more stores (map city_row (range_with_len 0 (4 * g))) t2 t3 f2 e3 in
    let f4 = groups_more cities (map state_row (range_with_len 0 g)) t3 t4 f3 e4 in
    let f5 = groups_more states (map mexican_state_row (range_with_len 0 g)) t4 t5 f4 e5 in
    let f6 = groups_more mexican_states (map province_row (range_with_len 0 g)) t5 t6 f5 e6 in
    let f7 = groups_more provinces (map mexican_region_row (range_with_len 0 g)) t6 t7 f6 e7 in
    let f8 = groups_more mexican_regions (map canadian_region_row (range_with_len 0 g)) t7 t8 f7 e8 in
    groups_more regions country_rows t8 t9 f8 e9
