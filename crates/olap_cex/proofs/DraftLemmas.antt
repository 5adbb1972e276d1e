-- The draft of a frozen dimension's instance: why no member and no parent is refused, and what it becomes.
use Rattle.std.proofs.Common.{◌≡◌, ◌≢◌, ℕ, ℤ, pos, negsuc, zero, suc, ◌+◌, ◌-◌, ◌<◌, ◌≤◌, ◌==◌, ◌||◌, List, [], ◌∷◌, ◌++◌, length, get_or, map, take, codes, Bool, true, false, cond, Option, Some, None, refl, sym, ◌∙◌, ap, subst, inl, inr, arith}
use Rattle.std.proofs.lemmas.{Bool.{eqb-true, eq-eqb}, Bool.Decides.{eqb_tells, nat_tests}, Fmt.IsAscii-signed}
use Rattle.std.proofs.lemmas.Int.{ints}
use Rattle.std.proofs.lemmas.List.{append-nil, get_or-map, get_or-take, length-map, length-take-le, map-append}
use Rattle.std.proofs.lemmas.List.{Elements.{Contains-get_or, filter-append, Contains-append_left}, Folds.list_any_none}
use Rattle.std.proofs.lemmas.{List.FromFn.length-range_with_len, Slice.Eq.bytes_eq-Decides}
use Rattle.std.proofs.lemmas.Str.{IsUtf8-from_ascii, is_utf8-from_IsUtf8, Ascii.IsAscii-from_all}
use Rattle.std.specs.{Int.Signed.mag, List.range_with_len}
use Rattle.std.specs.Prelude.{◌^◌, All, Contains, IsSome, IsTrue, filter, is_some, nat_le, replicate, unwrap_or}
use Rattle.std.specs.Str.{bytes_eq, is_utf8}
use Rattle.olap_base.proofs.AboveLemmas.{place_in_injective}
use Rattle.olap_base.proofs.ListLemmas.{Contains-filter, Contains-from_filter, Contains-from_map, Contains-from_range_at, Contains-range_at, Distinct, Distinct-filter, Distinct-from_AllPairs, Distinct-places, Distinct-range, contains_head, place_in_is, length-filter}
use Rattle.olap_base.specs.{Above.place_in, Deciding.contains_cons}
use Rattle.olap_base.specs.Graph.{Edge, Graph, IsCategory, IsCategoryName, IsHierarchy, IsLetterOrDigit, is_number, reserved}
use Rattle.olap_base.specs.{Instance.{Member, category_of, name_of, nobody}, Limits.most_members, Naming.place_of}
use Rattle.olap_ast.{proofs.Shape.same_id, specs.Constants.{IsConstant, IsNameOf, fresh_candidate}}
use Rattle.olap_ast.specs.Formula.{Formula, Constant.AText}
use Rattle.olap_ast.specs.Frozen.{IsFrozenInstance, categories_in_order, chosen, id_of, instance_of, is_present, member_of, present_categories}
use Rattle.olap_ast.specs.Schema.{Schema}
use Rattle.olap_numerals.specs.Numerals.{IsSmall, canonical, most_number, number_of}
use Rattle.olap_graph.specs.{Building.IsWithinLimits, Lookups.{edge_at, name_of_category}}
use Rattle.olap_frozen.proofs.ChosenLemmas.{choice_of, chosen_place, place_chosen}
use Rattle.olap_frozen.specs.{Chosen.{IsChoice, IsSound, Joins}, declared.founding.Found.Found}
use Rattle.olap_names.specs.Names.{with_graph}
use Rattle.olap_instance.proofs.{BuilderSteps.not-found, CategoryNames.category-utf8, Checks.{kind-at, number-good}}
use Rattle.olap_instance.specs.Drafts.{HasParent, has_numbers, instance_built, named_refusal, numbers_in, places_of, with_member, with_parent}
use Rattle.olap_instance.specs.InstanceText.{is_bad_id, is_bad_number, is_too_long}
use Rattle.olap_instance.specs.Members.{all_member, childless, with_parents}
use Rattle.olap_cex.proofs.ListLemmas.{chosen_more, filter_none, map_twice, place_behind, place_in_front, set_at_place}
use Rattle.olap_cex.proofs.PresentLemmas.{nowhere, place_counts, present_more}
use Rattle.olap_cex.specs.FoundFor.{IsFoundFor, found_draft, found_edges, found_instance, found_name, found_place}
use Rattle.olap_cex.specs.Present.{first_present, place_or_all}
use Rattle.olap_frozen.proofs.ChosenInstance as made

-- ---- names

-- this many underscores
abbrev underscores : ℕ → List ℕ
underscores n = replicate n 95

-- each name that may be the fresh one is UTF-8
pub fresh_is_utf8 : (n : ℕ) → IsTrue (is_utf8 (fresh_candidate n))
fresh_is_utf8 n = is_utf8-from_IsUtf8 (fresh_candidate n)
    (IsUtf8-from_ascii (fresh_candidate n) (IsAscii-from_all (fresh_candidate n) all))
  where
    tail : (n i d : ℕ) → i < length (underscores n) → get_or (underscores n) i d < 128
    tail zero i d l = absurd (omega arith)
    tail (suc n) zero d l = omega arith
    tail (suc n) (suc i) d l = tail n i d (omega arith)

    all : All (λ b. b < 128) (fresh_candidate n)
    all zero d l = omega arith
    all (suc zero) d l = omega arith
    all (suc (suc i)) d l = tail n i d (omega arith)

-- a letter or a digit is no semicolon
not_semicolon : (b : ℕ) → IsLetterOrDigit b → b == 59 ≡ false
not_semicolon b (inl (inl h)) = let l = h.0 in grind (arith, nat_tests)
not_semicolon b (inl (inr h)) = let l = h.0 in grind (arith, nat_tests)
not_semicolon b (inr h) = let l = h.1 in grind (arith, nat_tests)

-- a category's name is no bad id
pub name_is_good : (name : List ℕ) → IsCategoryName name → is_bad_id name ≡ false
name_is_good [] h = absurd h
name_is_good (b ∷ rest) h =
    let e : (length (b ∷ rest) == 0) ≡ false = grind (arith, nat_tests) in
    rw e (list_any_none (λ x. x == 59) (b ∷ rest) all)
  where
    all : All (λ x. x == 59 ≡ false) (b ∷ rest)
    all zero d l = not_semicolon b (inl h.0)
    all (suc i) d l = not_semicolon (get_or rest i d) (h.1 i d (omega arith))

-- no category's name is `all`
name_is_not_all : (name : List ℕ) → IsCategoryName name → name ≢ codes "all"
name_is_not_all [] h e = absurd h
name_is_not_all (b ∷ rest) h e = h.2 (subst (λ n. Contains reserved n) (sym e) (3, omega arith, refl))

-- the id of a declared category's member is the category's name
id_is_name : (g : Graph) (c : ℕ) → c ≢ 0 → name_of_category g c ≡ id_of g c
id_is_name g zero n = absurd (n refl)
id_is_name g (suc c) n = refl

-- where no check fails, there is no refusal
none_refused : {A : Type 0} (a b c d e f : Bool) (u v w x y z : A) → a ≡ false → b ≡ false → c ≡ false → d ≡ false
    → e ≡ false → f ≡ false
    → ◌≡◌ {A = Option A} (cond a (Some u)
    (cond b (Some v) (cond c (Some w) (cond d (Some x) (cond e (Some y) (cond f (Some z) None)))))) None
none_refused a b c d e f u v w x y z p q r s t o = rw (p, q, r, s, t, o) refl

-- a small number has a magnitude below 2^63
small_mag : (z : ℤ) → IsSmall z → mag z < 2 ^ 63
small_mag (pos n) h = let l : n ≤ most_number = omega (arith, ints, h.1) in omega arith
small_mag (negsuc n) h = let l : n < most_number = omega (arith, ints, h.0) in omega arith

-- a numeral is UTF-8
numeral_utf8 : (z : ℤ) → IsSmall z → IsTrue (is_utf8 (canonical z))
numeral_utf8 z small =
    is_utf8-from_IsUtf8 (canonical z) (IsUtf8-from_ascii (canonical z) (IsAscii-signed z (small_mag z small)))

-- so are the names of a category whose constants are
pub name_is_utf8 : (number : Bool) (s : Schema) (q : Formula) (d : ℕ) (name : List ℕ)
    → ((text : List ℕ) → IsConstant s q d (AText text) → IsTrue (is_utf8 text)) → IsNameOf number s q d name
    → IsTrue (is_utf8 name)
name_is_utf8 false s q d name utf8 n = elim n [
  | inl c ↦ utf8 name c
  | inr f ↦ subst (λ t. IsTrue (is_utf8 t)) (sym f.spelled) (fresh_is_utf8 f.underscores)
]
name_is_utf8 true s q d name utf8 n = subst (λ t. IsTrue (is_utf8 t)) (sym n.2) (numeral_utf8 n.0 n.1.0)

-- members and the places of their parents, put together
join : (head whole : ℕ → Member) (told : ℕ → List (Option ℕ)) (n : ℕ) (cs : List ℕ)
    → ((c : ℕ) → Contains cs c → ◌≡◌ {A = Member} (record (head c) { parents = places_of n (told c) }) (whole c))
    → with_parents (map head cs ++ all_member ∷ []) (map (places_of n) (map told cs) ++ [] ∷ [])
    ≡ map whole cs ++ all_member ∷ []
join head whole told n [] same = refl
join head whole told n (c ∷ cs) same =
    ap (λ m. m ∷ with_parents (map head cs ++ all_member ∷ []) (map (places_of n) (map told cs) ++ [] ∷ []))
    (same c (contains_head c cs))
    ∙ ap (λ t. whole c ∷ t) (join head whole told n cs (λ d k. same d (contains_cons d cs c k)))

-- ---- the draft of a frozen dimension

module _ (g : Graph) (found : Found) (ok : IsFoundFor g found) (hier : IsHierarchy g) where
  abbrev pub r : ℕ
  r = found.frozen.root.0

  abbrev pub bits : List Bool
  bits = found.frozen.edges

  abbrev pub es : List Edge
  es = found_edges g found

  abbrev pub name : ℕ → List ℕ
  name c = found_name found c

  abbrev pub s : Schema
  s = with_graph g ok.constraints

  pub choice : IsChoice g r es
  choice = choice_of g r bits hier ok.root

  pub stands : IsFrozenInstance s ok.question r (instance_of g r es name)
  stands = ok.is_one.stands_for

  pub sound : IsSound r es
  sound = made.sound_of_frozen s ok.question r es choice name stands

  abbrev all_listed : List ℕ
  all_listed = first_present r es (length g.names)

  cats_are : present_categories g r es ≡ all_listed ++ 0 ∷ []
  cats_are = filter-append (is_present r es) (range_with_len 1 (length g.names)) (0 ∷ [])
      ∙ ap (λ b. all_listed ++ cond b (0 ∷ []) []) sound.top

  within : (c : ℕ) → is_present r es c ≡ true → c < length g.names + 1
  within c p = made.present_category g r es choice c p

  listed : (c : ℕ) → is_present r es c ≡ true → c ≢ 0 → Contains all_listed c
  listed c p n = Contains-filter (is_present r es) (range_with_len 1 (length g.names)) c p
      (Contains-range_at 1 (length g.names) c (omega arith) (omega (arith, within c p)))

  distinct : Distinct all_listed
  distinct = Distinct-filter (is_present r es) (range_with_len 1 (length g.names)) (Distinct-range 1 (length g.names))

  zero_unlisted : Contains all_listed 0 → ⊥
  zero_unlisted c = omega (
    arith,
    (Contains-from_range_at 1 (length g.names) 0
        (Contains-from_filter (is_present r es) (range_with_len 1 (length g.names)) 0 c).0).0,
  )

  -- the place of a present declared category's member
  place_is : (c : ℕ) → is_present r es c ≡ true → c ≢ 0 → place_or_all r es c ≡ Some (place_in all_listed c)
  place_is zero p n = absurd (n refl)
  place_is (suc c) p n =
      let k = within (suc c) p in
      let e : suc c - 1 ≡ c = omega arith in
      ap (λ b. cond b (Some (length (first_present r es c))) None) p
      ∙ ap (λ m. Some m) (sym (place_counts (is_present r es) 1 (length g.names) (suc c) (omega arith) (omega arith) p
      ∙ ap (λ m. length (first_present r es m)) e))

  -- and in the instance
  place_there : (c : ℕ) → is_present r es c ≡ true
      → unwrap_or (place_or_all r es c) (length all_listed) ≡ place_in (all_listed ++ 0 ∷ []) c
  place_there zero p = sym (place_behind all_listed 0 zero_unlisted)
  place_there (suc c) p =
      ap (λ o. unwrap_or o (length all_listed)) (place_is (suc c) p (omega arith))
      ∙ sym (place_in_front all_listed (0 ∷ []) (suc c) (listed (suc c) p (omega arith)))

  same_parent : (c d : ℕ) → is_present r es c ≡ true → is_present r es d ≡ true
      → place_or_all r es c ≡ place_or_all r es d → c ≡ d
  same_parent zero zero p q e = refl
  same_parent zero (suc d) p q e =
      let t : None ≡ Some (place_in all_listed (suc d)) = e ∙ place_is (suc d) q (omega arith) in cc
  same_parent (suc c) zero p q e =
      let t : None ≡ Some (place_in all_listed (suc c)) = sym e ∙ place_is (suc c) p (omega arith) in cc
  same_parent (suc c) (suc d) p q e =
      let t : Some (place_in all_listed (suc c)) ≡ Some (place_in all_listed (suc d)) =
      sym (place_is (suc c) p (omega arith)) ∙ e ∙ place_is (suc d) q (omega arith) in
      place_in_injective all_listed (suc c) (suc d) (listed (suc c) p (omega arith)) (listed (suc d) q (omega arith)) cc

  abbrev to_place : Edge → Option ℕ
  to_place e = place_or_all r es e.parent

  abbrev leaves : ℕ → Edge → Bool
  leaves c e = e.child == c

  abbrev told : List Edge → ℕ → List (Option ℕ)
  told linked c = map to_place (filter (leaves c) linked)

  abbrev head : ℕ → Member
  head c = childless (id_of g c) c (name c)

  -- ---- a member

  module _ (c : ℕ) (declared : c ≢ 0) (category : IsCategory g c) (p : is_present r es c ≡ true) where
    pub id_utf8 : IsTrue (is_utf8 (name_of_category g c))
    id_utf8 = is_utf8-from_IsUtf8 (name_of_category g c) (category-utf8 g hier c category declared)

    pub name_utf8 : IsTrue (is_utf8 (found_name found c))
    name_utf8 =
        let m = made.member_is g r es choice name c p in
        let e = made.name_there g r es choice name c p in
        let there = category_of (instance_of g r es name) (made.place g r es choice c) in
        subst (λ t. IsTrue (is_utf8 t)) e
        (name_is_utf8 (is_number g there) s ok.question there
        (name_of (instance_of g r es name) (made.place g r es choice c))
        (ok.utf8 there) (stands.named (made.place g r es choice c) m.0 (λ z. declared (sym m.1 ∙ z))))

    -- where the category's names are numbers, its name is a numeral
    numeral : is_bad_number (has_numbers (found_draft g found (c - 1) []) c) (found_name found c) ≡ false
    numeral =
        let m = made.member_is g r es choice name c p in
        subst (λ b. is_bad_number b (found_name found c) ≡ false) (sym (kind-at g c))
        (number-good (is_number g c) (found_name found c)
        (λ b. subst (λ t. IsSome (number_of t)) (made.name_there g r es choice name c p)
        (stands.legal.numerals (made.place g r es choice c) m.0
        (subst (λ d. IsTrue (is_number g d)) (sym m.1) b))))

    abbrev before : List ℕ
    before = first_present r es (c - 1)

    known : (d : ℕ) → Contains before d → (1 ≤ d) × (d < c)
    known d k = let h = Contains-from_range_at 1 (c - 1) d
        (Contains-from_filter (is_present r es) (range_with_len 1 (c - 1)) d k).0 in (h.0, omega (arith, h.1))

    in_order : (d : ℕ) → 1 ≤ d → d ≤ c → Contains (categories_in_order g) d
    in_order d l h = Contains-append_left (range_with_len 1 (length g.names)) (0 ∷ []) d
        (Contains-range_at 1 (length g.names) d l (omega arith))

    absent : (k : ℕ) → k < length (map (λ m. m.id) (map head before))
        → get_or (map (λ m. m.id) (map head before)) k [] ≢ name_of_category g c
    absent k l e =
        let a = length-map (map head before) (λ m. m.id) in
        let b = length-map before head in
        let h : k < length before = omega arith in
        let d = get_or before k 0 in
        let at : get_or (map (λ m. m.id) (map head before)) k [] ≡ id_of g d =
        get_or-map (λ m. m.id) (map head before) k nobody [] (omega arith)
        ∙ ap (λ (m : Member). m.id) (get_or-map head before k 0 nobody h) in
        let t = known d (Contains-get_or before k 0 h) in
        let same = same_id g hier d c (in_order d t.0 (omega (arith, t.1))) (in_order c (omega arith) (omega arith))
        (sym at ∙ e ∙ id_is_name g c declared) in
        omega (arith, t.1)

    pub accepted : IsWithinLimits g
        → named_refusal (found_draft g found (c - 1) []) (name_of_category g c) c (found_name found c) ≡ None
    accepted limits =
        let id = name_of_category g c in
        let spelled = category_name c declared category in
        let good = name_is_good id spelled.0 in
        let small : length id ≤ 255 = limits.short_names id spelled.1 in
        let short : is_too_long id ≡ false = grind (arith, nat_tests) in
        let other : bytes_eq id (codes "all") ≡ false = unequal id (codes "all") (name_is_not_all id spelled.0) in
        let new = not-found id (map (λ m. m.id) (map head before)) 0 absent in
        let few = limits.few in
        let n : length (map head before) + 1 < most_members =
        let a = length-map before head in
        let b = length-filter (is_present r es) (range_with_len 1 (c - 1)) in
        let e = length-range_with_len 1 (c - 1) in
        omega arith in
        none_refused (is_bad_id id) (is_too_long id) (c == 0)
        (is_bad_number (has_numbers (found_draft g found (c - 1) []) c) (found_name found c))
        (bytes_eq id (codes "all") || is_some (place_of id (map (λ m. m.id) (map head before))))
        (nat_le most_members (length (map head before) + 1)) _ _ _ _ _ _
        good short (grind (arith, nat_tests)) numeral (rw (other, new) refl) (grind (arith, nat_tests))
      where
        category_name : (d : ℕ) → d ≢ 0 → IsCategory g d
            → IsCategoryName (name_of_category g d) × Contains g.names (name_of_category g d)
        category_name zero n k = absurd (n refl)
        category_name (suc d) n k =
            let h = Contains-get_or g.names d [] (omega arith) in
            ((hier.names (get_or g.names d []) h).0, h)

        unequal : (x y : List ℕ) → x ≢ y → bytes_eq x y ≡ false
        unequal x y n = go (bytes_eq x y) refl
          where
            go : (b : Bool) → bytes_eq x y ≡ b → bytes_eq x y ≡ false
            go true e = absurd (n ((bytes_eq-Decides x y).0 e))
            go false e = e

    pub member_added : with_member (found_draft g found (c - 1) []) (name_of_category g c) c (found_name found c)
        ≡ found_draft g found c []
    member_added =
        let e = present_more r es c (omega arith) p in
        let ms : map head (first_present r es c)
        ≡ map head before ++ childless (name_of_category g c) c (name c) ∷ [] =
        ap (map head) e ∙ map-append head before (c ∷ [])
        ∙ ap (λ i. map head before ++ childless i c (name c) ∷ []) (sym (id_is_name g c declared)) in
        let ps : map (told []) (first_present r es c) ≡ map (told []) before ++ [] ∷ [] =
        ap (map (told [])) e ∙ map-append (told []) before (c ∷ []) in
        λ z. record {
          categories = length g.names + 1;
          numbers = numbers_in g;
          members = sym ms z;
          parents = sym ps z;
        }

    pub member_place : Some (length before) ≡ place_or_all r es c
    member_place =
        let k = within c p in
        sym (place_is c p declared ∙ ap (λ m. Some m)
        (place_counts (is_present r es) 1 (length g.names) c (omega arith) (omega arith) p))

  -- the root's member stands where this many present categories stand before it
  pub root_at : r ≢ 0 → length (first_present r es (r - 1)) ≡ found_place g found
  root_at n =
      let p = made.root_present g r es choice in
      ap (λ o. unwrap_or o (length all_listed)) (member_place r n ok.root p) ∙ place_there r p
      ∙ ap (λ l. place_in l r) (sym cats_are)

  -- ---- a parent

  module _ (k : ℕ) (inside : k < length g.edges) (bit : get_or bits k false ≡ true) (c d : ℕ)
      (at : edge_at g k ≡ record { child = c; parent = d }) where
    abbrev edge : Edge
    edge = record { child = c; parent = d }

    abbrev linked : List Edge
    linked = chosen (take k g.edges) bits

    joined : Joins es c d
    joined = place_chosen g.edges bits edge nowhere k inside bit at

    child_there : is_present r es c ≡ true
    child_there = made.child_present g r es choice c d joined

    parent_there : is_present r es d ≡ true
    parent_there = made.parent_present g r es choice c d joined

    child_declared : c ≢ 0
    child_declared e = hier.none_from_all d
        (subst (λ z. Contains g.edges (record { child = z; parent = d })) e (choice.within edge joined))

    pub child_place : place_or_all r es c ≡ Some (place_in all_listed c)
    child_place = place_is c child_there child_declared

    child_at : (place_in all_listed c < length all_listed) × (get_or all_listed (place_in all_listed c) 0 ≡ c)
    child_at = place_in_is all_listed c (listed c child_there child_declared)

    pub child_inside : place_in all_listed c < length (map head all_listed)
    child_inside = let n = length-map all_listed head in omega (arith, child_at.0)

    pub parent_inside : (m : ℕ) → place_or_all r es d ≡ Some m → m < length (map head all_listed)
    parent_inside m e = by d parent_there e
      where
        by : (d : ℕ) → is_present r es d ≡ true → place_or_all r es d ≡ Some m → m < length (map head all_listed)
        by zero p e = absurd (cc)
        by (suc d) p e =
            let t : Some m ≡ Some (place_in all_listed (suc d)) = sym e ∙ place_is (suc d) p (omega arith) in
            let u : m ≡ place_in all_listed (suc d) = cc in
            let l = (place_in_is all_listed (suc d) (listed (suc d) p (omega arith))).0 in
            omega (arith, u, l, length-map all_listed head)

    -- an edge before this one is another
    pub parent_new : HasParent (found_draft g found (length g.names) linked) (place_in all_listed c)
        (place_or_all r es d) → ⊥
    parent_new h =
        let so_far : get_or (map (told linked) all_listed) (place_in all_listed c) [] ≡ told linked c =
        get_or-map (told linked) all_listed (place_in all_listed c) 0 [] child_at.0 ∙ ap (told linked) child_at.1 in
        let t = Contains-from_map to_place (filter (leaves c) linked) (place_or_all r es d)
        (subst (λ ps. Contains ps (place_or_all r es d)) so_far h) in
        let u = Contains-from_filter (leaves c) linked t.0 t.1 in
        let v = chosen_place (take k g.edges) bits t.0 nowhere u.0 in
        let n = length-take-le k g.edges (omega arith) in
        let j : v.0 < k = omega (arith, v.1) in
        let here : get_or g.edges v.0 nowhere ≡ t.0 = sym (get_or-take k g.edges v.0 nowhere j) ∙ v.3 in
        let there = place_chosen g.edges bits t.0 nowhere v.0 (omega arith) v.2 here in
        let same : t.0.parent ≡ d = same_parent t.0.parent d
        (made.parent_present g r es choice t.0.child t.0.parent there) parent_there t.2 in
        let child : t.0.child ≡ c = eqb-true t.0.child c u.1 in
        let e : t.0 ≡ edge = λ z. record { child = child z; parent = same z } in
        let w : v.0 ≡ k = Distinct-places g.edges (Distinct-from_AllPairs g.edges hier.edges_differ) v.0 k nowhere
        (omega arith) inside (here ∙ e ∙ sym at) in
        omega arith

    told_push : (y : ℕ) → told (chosen (take (suc k) g.edges) bits) y
        ≡ map to_place (filter (leaves y) linked ++ filter (leaves y) (edge ∷ []))
    told_push y =
        ap (λ l. told l y) (chosen_more g.edges bits k nowhere inside bit ∙ ap (λ e. linked ++ e ∷ []) at)
        ∙ ap (map to_place) (filter-append (leaves y) linked (edge ∷ []))

    pub parent_added : with_parent (found_draft g found (length g.names) linked) (place_in all_listed c)
        (place_or_all r es d) ≡ found_draft g found (length g.names) (chosen (take (suc k) g.edges) bits)
    parent_added =
        let others = λ (y : ℕ) (n : y ≢ c).
        told_push y ∙ ap (λ b. map to_place (filter (leaves y) linked ++ cond b (edge ∷ []) []))
        (unequal c y (λ e. n (sym e)))
        ∙ ap (map to_place) (append-nil (filter (leaves y) linked)) in
        let own = told_push c
        ∙ ap (λ b. map to_place (filter (leaves c) linked ++ cond b (edge ∷ []) [])) (eq-eqb c c refl)
        ∙ map-append to_place (filter (leaves c) linked) (edge ∷ []) in
        let ps = set_at_place (told linked) (told (chosen (take (suc k) g.edges) bits)) all_listed c
        (place_or_all r es d) distinct (listed c child_there child_declared) others own in
        λ z. record {
          categories = length g.names + 1;
          numbers = numbers_in g;
          members = map head all_listed;
          parents = ps z;
        }
      where
        unequal : (x y : ℕ) → x ≢ y → x == y ≡ false
        unequal x y n = elim (eqb_tells x y) [ inl e ↦ absurd (n e.1) | inr e ↦ e.0 ]

  -- ---- the whole

  abbrev whole : ℕ → Member
  whole c = member_of g name (present_categories g r es) es c

  pub built : instance_built (found_draft g found (length g.names) es) ≡ found_instance g found
  built =
      ap (λ m. with_parents (map head all_listed ++ all_member ∷ [])
      (map (places_of m) (map (told es) all_listed) ++ [] ∷ [])) (length-map all_listed head)
      ∙ join head whole (told es) (length all_listed) all_listed same
      ∙ sym (ap (map whole) cats_are ∙ map-append whole all_listed (0 ∷ [])
      ∙ ap (λ m. map whole all_listed ++ m ∷ []) top)
    where
      at : (c : ℕ) (e : Edge) → Contains (filter (leaves c) es) e
          → unwrap_or (to_place e) (length all_listed) ≡ place_in (present_categories g r es) e.parent
      at c e k =
          let h = Contains-from_filter (leaves c) es e k in
          place_there e.parent (made.parent_present g r es choice e.child e.parent h.0)
          ∙ ap (λ l. place_in l e.parent) (sym cats_are)

      same : (c : ℕ) → Contains all_listed c
          → ◌≡◌ {A = Member} (record (head c) { parents = places_of (length all_listed) (told es c) }) (whole c)
      same c k = ap (λ (ps : List ℕ). record (head c) { parents = ps })
          (map_twice (λ m. unwrap_or m (length all_listed)) to_place
          (λ e. place_in (present_categories g r es) e.parent) (filter (leaves c) es) (at c))

      none_below : (e : Edge) → Contains es e → e.child == 0 ≡ false
      none_below e k = elim (eqb_tells e.child 0) [
        | inl q ↦ absurd (hier.none_from_all e.parent
            (subst (λ z. Contains g.edges (record { child = z; parent = e.parent })) q.1 (choice.within e k)))
        | inr q ↦ q.0
      ]

      top : whole 0 ≡ all_member
      top = ap (λ (l : List Edge). record all_member {
        parents = map (λ e. place_in (present_categories g r es) e.parent) l;
      }) (filter_none (leaves 0) es none_below)
