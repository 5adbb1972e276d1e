-- What the lists of names and the fresh name are, taken together.
use Rattle.std.proofs.Common.{◌≡◌, suc, ℕ, ◌+◌, ◌<◌, ◌≤◌, List, [], ◌∷◌, ◌++◌, length, get_or, map, take, true, false, refl, ap, sym, subst, ◌∙◌, arith, inl, inr}
use Rattle.std.proofs.lemmas.{Bool.{eqb-true, cases_lt}, Cmp.tied_itself}
use Rattle.std.proofs.lemmas.List.{take_all, length-map, length_push, get_or_past, get_or_push, get_or_append_left}
use Rattle.std.proofs.lemmas.{List.Elements.All-contains, Slice.Eq.bytes_eq-Decides}
use Rattle.std.specs.{Cmp.Lexicographic.{slice_cmp, nat_list_cmp_total}, Ordering.nat_cmp}
use Rattle.std.specs.{Prelude.{All, AllPairs, Contains, flat_map, ◌==◌}, Str.bytes_eq}
use Rattle.olap_base.proofs.GeneralLemmas.{below_or_same}
use Rattle.olap_base.proofs.ListLemmas.{Distinct, Contains-nil, Contains-from_map, Distinct-map, Distinct-from_AllPairs, first_true, second_true}
use Rattle.olap_base.specs.Graph.{Graph, IsHierarchy, category_count, is_number}
use Rattle.olap_ast.proofs.ComparedLemmas.{atom_on_names, constant_text, constants_in_order, text_constant}
use Rattle.olap_ast.specs.Atoms.{Equality, texts_on}
use Rattle.olap_ast.specs.Constants.{AreInByteOrder, HasKinds, IsBefore, IsConstant, IsFreshName, fresh_candidate}
use Rattle.olap_ast.specs.{Formula.{Constant.AText, Formula}, Frozen.{AreCandidates, AreNamesOf}}
use Rattle.olap_ast.specs.{Pairs.{distinct_pairs, is_same_pair}, Schema.{Constraint, Schema}}
use Rattle.olap_names.proofs.Counting.{few_distinct, in_fold}
use Rattle.olap_names.specs.Names.{IsFreshAmong, Named, atoms, candidates_of, most_others, with_graph}

-- ---- distinct pairs hold every atom

-- pairs that the test takes for one are equal
same_pair : (a b : Equality) → is_same_pair a b ≡ true → a ≡ b
same_pair a b e =
    let c = eqb-true a.category b.category (first_true (a.category == b.category) (bytes_eq a.text b.text) e) in
    let t = (bytes_eq-Decides a.text b.text).0
    (second_true (a.category == b.category) (bytes_eq a.text b.text) e) in
    λ i. record { category = c i; text = t i }

-- ---- what is gathered

-- what was gathered of the constraints and then of the question is gathered of all
pub gathered_all : {A B C K : Type 0} (on : List A → List B) (of : C → List A) (known : K → C) (ks : List K) (i : ℕ)
    (xs : List A) {old new : List B} → ((us vs : List A) → on (us ++ vs) ≡ on us ++ on vs) → length ks ≤ i
    → old ≡ on (flat_map of (map known (take i ks))) → new ≡ old ++ on xs → new ≡ on (flat_map of (map known ks) ++ xs)
gathered_all on of known ks i xs both all o n =
    n ∙ ap (λ l. l ++ on xs) (o ∙ ap (λ l. on (flat_map of (map known l))) (take_all i ks all))
    ∙ sym (both (flat_map of (map known ks)) xs)

-- ---- a category has no more constants than there are pairs

-- texts in byte order are distinct
text_distinct : (texts : List (List ℕ)) → AllPairs IsBefore texts → Distinct texts
text_distinct texts o = Distinct-from_AllPairs texts (λ i j d below inside e.
    let b = o i j d below inside in
    let s : slice_cmp nat_cmp (get_or texts i d) (get_or texts j d) ≡ slice_cmp nat_cmp (get_or texts i d)
    (get_or texts i d) =
    ap (λ t. slice_cmp nat_cmp (get_or texts i d) t) (sym e) in
    let r = tied_itself nat_list_cmp_total (get_or texts i d) in
    absurd (cc))

-- a category has no more constants than there are distinct pairs
pub few_constants : (d : ℕ) (es : List Equality) (texts : List (List ℕ))
    → AreInByteOrder (Contains (texts_on d es)) texts → length texts ≤ length (distinct_pairs es)
few_constants d es texts o =
    let pair : List ℕ → Equality = λ t. record { category = d; text = t } in
    let l = few_distinct (map pair texts) (distinct_pairs es)
    (Distinct-map pair texts (text_distinct texts o.ordered) (λ x y c e q. ap (λ (a : Equality). a.text) q))
    (λ a c. let t = Contains-from_map pair texts a c in
    in_fold is_same_pair same_pair es [] a
    (inr (subst (λ w. Contains es w) t.2 (atom_on_names d es t.0 (o.sound t.0 t.1))))) in
    let e = length-map texts pair in
    omega (arith, l, e)

-- ---- the constants of each category

-- each category so far has its constants in byte order
pub record AreListed (all : List Equality) (n : ℕ) (texts : List (List (List ℕ))) : Type 0 where
  pub count : length texts ≡ n
  pub each : (d : ℕ) → d < n → AreInByteOrder (Contains (texts_on d all)) (get_or texts d [])

-- one category more
pub listed_more : (all : List Equality) (n : ℕ) (texts new : List (List (List ℕ))) (x : List (List ℕ))
    → AreListed all n texts → AreInByteOrder (Contains (texts_on n all)) x → new ≡ texts ++ x ∷ []
    → AreListed all (n + 1) new
listed_more all n texts new x l o e = record {
  count = ap length e ∙ length_push texts x ∙ ap (λ k. k + 1) l.count;
  each = λ d h. subst (λ t. AreInByteOrder (Contains (texts_on d all)) (get_or t d [])) (sym e)
      (elim (below_or_same d n h) [
        | inl b ↦ subst (λ t. AreInByteOrder (Contains (texts_on d all)) t)
            (sym (get_or_append_left texts (x ∷ []) [] d (let k = l.count in omega arith))) (l.each d b)
        | inr q ↦ subst (λ k. AreInByteOrder (Contains (texts_on k all)) (get_or (texts ++ x ∷ []) k [])) (sym q)
            (subst (λ t. AreInByteOrder (Contains (texts_on n all)) t) (sym (get_or_push texts x [] n l.count)) o)
      ]);
}

-- a category of which no atom speaks has no constants
no_constants : (d : ℕ) (all : List Equality) → ((a : Equality) → Contains all a → a.category ≡ d → ⊥)
    → AreInByteOrder (Contains (texts_on d all)) []
no_constants d all none = record {
  ordered = λ i j e below inside. absurd (omega arith);
  sound = λ text c. absurd (Contains-nil text c);
  complete = λ text c. absurd (none (record { category = d; text = text }) (atom_on_names d all text c) refl);
}

-- nor has one after those of which atoms speak
none_past : (d n : ℕ) (all : List Equality) → All (λ a. a.category < n) all → n ≤ d
    → AreInByteOrder (Contains (texts_on d all)) []
none_past d n all w l = no_constants d all (λ a b e. let u : a.category < n =
    All-contains (λ (x : Equality). x.category < n) all a w b in absurd (omega arith))

-- with all categories that atoms speak of, it is so of each
pub listed_everywhere : (all : List Equality) (n : ℕ) (texts : List (List (List ℕ))) → All (λ a. a.category < n) all
    → AreListed all n texts → (d : ℕ) → AreInByteOrder (Contains (texts_on d all)) (get_or texts d [])
listed_everywhere all n texts w l d = elim (cases_lt d n) [
  | inl h ↦ l.each d h
  | inr h ↦ subst (λ t. AreInByteOrder (Contains (texts_on d all)) t)
      (sym (get_or_past texts d [] (let e = l.count in omega arith)))
      (none_past d n all w h)
]

-- ---- all together

-- what the names of the first n categories are
pub record AreNamed (s : Schema) (q : Formula) (n : ℕ) (first : List (List ℕ)) (texts : List (List (List ℕ))) : Type 0
  where
    pub first_count : length first ≡ n
    pub count : length texts ≡ n
    pub each : (d : ℕ) (z : List ℕ) → d < n
        → AreNamesOf (is_number s.graph d) s q d (get_or first d z) (get_or texts d [])
    pub few : (d : ℕ) → d < n → length (get_or texts d []) ≤ most_others

-- before the first category none has names
pub none_named : (s : Schema) (q : Formula) → AreNamed s q 0 [] []
none_named s q = record {
  first_count = refl;
  count = refl;
  each = λ d z h. absurd (omega arith);
  few = λ d h. absurd (omega arith);
}

-- one category more
pub named_more : (s : Schema) (q : Formula) (n : ℕ) (first : List (List ℕ)) (texts : List (List (List ℕ)))
    (name : List ℕ) (others : List (List ℕ)) → AreNamed s q n first texts
    → AreNamesOf (is_number s.graph n) s q n name others → length others ≤ most_others
    → AreNamed s q (n + 1) (first ++ name ∷ []) (texts ++ others ∷ [])
named_more s q n first texts name others a is few = record {
  first_count = length_push first name ∙ ap (λ k. k + 1) a.first_count;
  count = length_push texts others ∙ ap (λ k. k + 1) a.count;
  each = λ d z h. elim (below_or_same d n h) [
    | inl b ↦ before d z b
    | inr e ↦ subst (λ k. AreNamesOf (is_number s.graph k) s q k (get_or (first ++ name ∷ []) k z)
        (get_or (texts ++ others ∷ []) k [])) (sym e) (here z)
  ];
  few = λ d h. elim (below_or_same d n h) [
    | inl b ↦ subst (λ (l : List (List ℕ)). length l ≤ most_others) (sym (old_texts d b)) (a.few d b)
    | inr e ↦ subst (λ k. length (get_or (texts ++ others ∷ []) k []) ≤ most_others) (sym e)
        (subst (λ (l : List (List ℕ)). length l ≤ most_others) (sym new_texts) few)
  ];
}
  where
    old_texts : (d : ℕ) → d < n → get_or (texts ++ others ∷ []) d [] ≡ get_or texts d []
    old_texts d b = get_or_append_left texts (others ∷ []) [] d (let k = a.count in omega arith)

    old_first : (d : ℕ) (z : List ℕ) → d < n → get_or (first ++ name ∷ []) d z ≡ get_or first d z
    old_first d z b = get_or_append_left first (name ∷ []) z d (let k = a.first_count in omega arith)

    new_texts : get_or (texts ++ others ∷ []) n [] ≡ others
    new_texts = get_or_push texts others [] n a.count

    before : (d : ℕ) (z : List ℕ) → d < n → AreNamesOf (is_number s.graph d) s q d (get_or (first ++ name ∷ []) d z)
        (get_or (texts ++ others ∷ []) d [])
    before d z b = subst (λ f. AreNamesOf (is_number s.graph d) s q d f (get_or (texts ++ others ∷ []) d []))
        (sym (old_first d z b)) (subst (λ t. AreNamesOf (is_number s.graph d) s q d (get_or first d z) t)
        (sym (old_texts d b)) (a.each d z b))

    here : (z : List ℕ) → AreNamesOf (is_number s.graph n) s q n (get_or (first ++ name ∷ []) n z)
        (get_or (texts ++ others ∷ []) n [])
    here z = subst (λ f. AreNamesOf (is_number s.graph n) s q n f (get_or (texts ++ others ∷ []) n []))
        (sym (get_or_push first name z n a.first_count))
        (subst (λ t. AreNamesOf (is_number s.graph n) s q n name t) (sym new_texts) is)

-- no category has more names than there is room for
pub few_named : (s : Schema) (q : Formula) (n : ℕ) (first : List (List ℕ)) (texts : List (List (List ℕ)))
    → AreNamed s q n first texts → (d : ℕ) → length (get_or texts d []) ≤ most_others
few_named s q n first texts a d = elim (cases_lt d n) [
  | inl l ↦ a.few d l
  | inr l ↦ subst (λ (t : List (List ℕ)). length t ≤ most_others)
      (sym (get_or_past texts d [] (let e = a.count in omega arith))) (omega arith)
]

-- past the graph's categories there are texts alone, and no constants
no_number : (g : Graph) (c : ℕ) → IsHierarchy g → length g.names ≤ c → is_number g (suc c) ≡ false
no_number g c h l = get_or_past g.numbers c false (let e = h.kinds_known in omega arith)

-- names of all categories, with a fresh name, are candidates
pub are_candidates : (g : Graph) (cs : List Constraint) (q : Formula) (k : Named) → IsHierarchy g
    → All (λ a. a.category < category_count g) (atoms cs q) → HasKinds (with_graph g cs) q
    → IsFreshName (with_graph g cs) q k.fresh → AreNamed (with_graph g cs) q (category_count g) k.first k.texts
    → AreCandidates (with_graph g cs) q (candidates_of k)
are_candidates g cs q k h w kinds fresh named = record {
  kinds = kinds;
  names = λ c. elim (cases_lt (suc c) (category_count g)) [
    | inl l ↦ named.each (suc c) k.fresh l
    | inr l ↦ past c l
  ];
}
  where
    s : Schema
    s = with_graph g cs

    first_past : (c : ℕ) → category_count g ≤ suc c → get_or k.first (suc c) k.fresh ≡ k.fresh
    first_past c l = get_or_past k.first (suc c) k.fresh (let e = named.first_count in omega arith)

    texts_past : (c : ℕ) → category_count g ≤ suc c → get_or k.texts (suc c) [] ≡ []
    texts_past c l = get_or_past k.texts (suc c) [] (let e = named.count in omega arith)

    past : (c : ℕ) → category_count g ≤ suc c → AreNamesOf (is_number g (suc c)) (with_graph g cs) q (suc c)
        (get_or k.first (suc c) k.fresh) (get_or k.texts (suc c) [])
    past c l = subst (λ b. AreNamesOf b (with_graph g cs) q (suc c) (get_or k.first (suc c) k.fresh)
        (get_or k.texts (suc c) [])) (sym (no_number g c h (omega arith))) (
          subst (λ f. IsFreshName (with_graph g cs) q f) (sym (first_past c l)) fresh,
          subst (λ t. AreInByteOrder (λ text. IsConstant (with_graph g cs) q (suc c) (AText text)) t)
              (sym (texts_past c l))
              (constants_in_order s q (suc c) [] (none_past (suc c) (category_count g) (atoms cs q) w l)),
        )

-- the first of nk, nk_, .. that is none of the constants of the categories is the fresh name
pub is_fresh : (g : Graph) (cs : List Constraint) (q : Formula) (texts : List (List (List ℕ))) (name : List ℕ)
    → ((d : ℕ) → AreInByteOrder (Contains (texts_on d (atoms cs q))) (get_or texts d [])) → IsFreshAmong texts name
    → IsFreshName (with_graph g cs) q name
is_fresh g cs q texts name all f = record {
  underscores = f.underscores;
  spelled = f.spelled;
  free = λ d c. f.free (d, (all d).complete name (constant_text (with_graph g cs) q d name c));
  first = λ m h. let t = f.first m h in
      (t.0, text_constant (with_graph g cs) q t.0 (fresh_candidate m) ((all t.0).sound _ t.1));
}
