-- Steps of a visit, and of the walk upwards.
use Rattle.std.proofs.Common.{◌≡◌, ◌≢◌, ℕ, zero, suc, ◌+◌, ◌<◌, ◌≤◌, ◌⊎◌, List, [], ◌∷◌, ◌++◌, length, get_or, set, take, Bool, true, false, cond, refl, ap, sym, subst, ◌∙◌, inl, inr, arith, length-append, get_or-set_same, get_or-set_other}
use Rattle.std.proofs.{Math.ListN.length-set, lemmas.Bool.Decides.nat_tests, lemmas.List.get_or_default}
use Rattle.std.proofs.lemmas.List.Elements.{Contains-append_left, Contains-push, Contains-push_cases}
use Rattle.std.specs.Prelude.{Contains, ◌==◌}
use Rattle.olap_base.{proofs.ListLemmas.Contains-nil, specs.Deciding.contains_cases}
use Rattle.olap_base.specs.{Instance.{Instance, category_of, parents_of}, Limits.most_members}
use Rattle.olap_base.specs.declared.ids.MemberId.{MemberId}
use Rattle.olap_graph.proofs.MarkLemmas.{take_cases, take_before, take_last}
use Rattle.olap_legal.proofs.ParentLemmas.{IsParentAt, parent_member, places, take_read}
use Rattle.olap_legal.specs.Rows.{none, IsBounded, IsIn, IsRow, free_count, IsVisit, Meets, VisitGives}
use native.Mathlib.Decide.{ℕ_discrete}

-- an element of the first few is one of all
pub take_within : (ps : List ℕ) (k y : ℕ) → Contains (take k ps) y → Contains ps y
take_within [] zero y c = c
take_within [] (suc k) y c = c
take_within (p ∷ ps) zero y c = absurd (Contains-nil y c)
take_within (p ∷ ps) (suc k) y c = elim (contains_cases y p (take k ps) c) [
  | inl e ↦ (0, omega arith, e)
  | inr d ↦ let t = take_within ps k y d in (suc t.0, omega (arith, t.1), t.2)
]

-- a place that is filled is one free place fewer
free_set : (row : List ℕ) (k p : ℕ) → k < length row → get_or row k 0 ≡ none → p ≢ none
    → suc (free_count (set row k p)) ≡ free_count row
free_set [] k p h e n = absurd (omega arith)
free_set (x ∷ row) zero p h e n = here (x == none) (p == none) (grind (arith, nat_tests)) (grind (arith, nat_tests))
  where
    here : (a b : Bool) → a ≡ true → b ≡ false → suc (cond b (suc (free_count row)) (free_count row))
        ≡ cond a (suc (free_count row)) (free_count row)
    here true true s t = absurd (cc)
    here true false s t = refl
    here false b s t = absurd (cc)
free_set (x ∷ row) (suc k) p h e n = go (x == none) (free_set row k p (omega arith) e n)
  where
    go : (a : Bool) → suc (free_count (set row k p)) ≡ free_count row
        → suc (cond a (suc (free_count (set row k p))) (free_count (set row k p)))
        ≡ cond a (suc (free_count row)) (free_count row)
    go true s = ap suc s
    go false s = s

-- ---- one place more

module _ (i : Instance) (row : List ℕ) (p : ℕ) (few : length i ≤ most_members) (is_member : p < length i)
    (room : category_of i p < length row) where
  -- the new member is in
  pub same_in : IsIn i (set row (category_of i p) p) p
  same_in = rw get_or-set_same

  -- those that were in still are
  pub kept_in : get_or row (category_of i p) 0 ≡ none → (y : ℕ) → y < length i → IsIn i row y
      → IsIn i (set row (category_of i p) p) y
  kept_in free y h m = elim (ℕ_discrete (category_of i y) (category_of i p)) [
    | yes e ↦ absurd (let t : y ≡ none = sym m ∙ ap (λ d. get_or row d 0) e ∙ free in omega arith)
    | no n ↦ let ne : category_of i y ≢ category_of i p = n in rw get_or-set_other m
  ]

  -- and nothing else is
  pub from_in : (y : ℕ) → IsIn i (set row (category_of i p) p) y → IsIn i row y ⊎ (y ≡ p)
  from_in y m = elim (ℕ_discrete (category_of i y) (category_of i p)) [
    | yes e ↦ inr (sym m ∙ ap (λ d. get_or (set row (category_of i p) p) d 0) e
        ∙ get_or-set_same row (category_of i p) p 0 room)
    | no n ↦ let ne : category_of i y ≢ category_of i p = n in inl (rw get_or-set_other at m)
  ]

  -- the places have members of their categories
  pub own_set : IsRow i row → IsRow i (set row (category_of i p) p)
  own_set r = record {
    own = λ d h ne. elim (ℕ_discrete d (category_of i p)) [
      | yes e ↦
          let v : get_or (set row (category_of i p) p) d 0 ≡ p =
          ap (λ k. get_or (set row (category_of i p) p) k 0) e ∙ get_or-set_same row (category_of i p) p 0 room in
          (subst (λ y. y < length i) (sym v) is_member, ap (category_of i) v ∙ sym e)
      | no n ↦
          let apart : d ≢ category_of i p = n in
          let v : get_or (set row (category_of i p) p) d 0 ≡ get_or row d 0 =
          get_or-set_other row (category_of i p) d p 0 apart in
          let inside : d < length row = subst (λ k. d < k) (length-set row (category_of i p) p) h in
          let t = r.own d inside (λ q. ne (v ∙ q)) in
          (subst (λ y. y < length i) (sym v) t.0, ap (category_of i) v ∙ t.1)
    ];
  }

-- ---- a visit

-- no parent is visited
pub visit_none : (i : Instance) (row list : List ℕ) → IsRow i row → IsVisit i [] row row list list
visit_none i row list r = record {
  same_length = refl;
  own = r;
  kept = λ y h m. m;
  done = λ y c. absurd (Contains-nil y c);
  fresh = λ y h m. inl m;
  listed = λ y c. c;
  only = λ y c. inl c;
  fewer = omega arith;
}

-- a parent that is in already
pub visit_skip : (i : Instance) (ps : List ℕ) (k : ℕ) (before row old list : List ℕ) → k < length ps
    → IsIn i row (get_or ps k 0)
    → IsVisit i (take k ps) before row old list → IsVisit i (take (k + 1) ps) before row old list
visit_skip i ps k before row old list h m v = record {
  same_length = v.same_length;
  own = v.own;
  kept = v.kept;
  done = λ y c. elim (take_cases ps k y h c) [ inl d ↦ v.done y d | inr e ↦ subst (λ z. IsIn i row z) e m ];
  fresh = λ y l n. elim (v.fresh y l n) [ inl a ↦ inl a | inr a ↦ inr (take_before ps k y h a.0, a.1) ];
  listed = v.listed;
  only = λ y c. elim (v.only y c) [ inl a ↦ inl a | inr a ↦ inr (take_before ps k y h a) ];
  fewer = v.fewer;
}

-- a parent that is new
pub visit_push : (i : Instance) (ps : List ℕ) (k : ℕ) (before row old list : List ℕ) → length i ≤ most_members
    → k < length ps → ((y : ℕ) → Contains ps y → y < length i)
    → category_of i (get_or ps k 0) < length row → get_or row (category_of i (get_or ps k 0)) 0 ≡ none
    → IsVisit i (take k ps) before row old list → IsVisit i (take (k + 1) ps) before
    (set row (category_of i (get_or ps k 0)) (get_or ps k 0)) old (list ++ get_or ps k 0 ∷ [])
visit_push i ps k before row old list few h places l free v =
    let p = get_or ps k 0 in
    let inside : get_or ps k 0 < length i = places p (take_within ps (k + 1) p (take_last ps k h)) in
    let far : get_or ps k 0 ≢ none = omega arith in
    let same = same_in i row p few inside l in
    record {
      same_length = length-set row (category_of i p) p ∙ v.same_length;
      own = own_set i row p few inside l v.own;
      kept = λ y b m. kept_in i row p few inside l free y b (v.kept y b m);
      done = λ y c. elim (take_cases ps k y h c) [
        | inl d ↦ kept_in i row p few inside l free y (places y (take_within ps k y d)) (v.done y d)
        | inr e ↦ subst (λ z. IsIn i (set row (category_of i p) p) z) e same
      ];
      fresh = λ y b m. elim (from_in i row p few inside l y m) [
        | inl a ↦ elim (v.fresh y b a) [
          | inl c ↦ inl c
          | inr c ↦
              inr (take_before ps k y h c.0, Contains-append_left list (p ∷ []) y c.1)
        ]
        | inr e ↦
            inr (
              subst (λ z. Contains (take (k + 1) ps) z) (sym e) (take_last ps k h),
              subst (λ z. Contains (list ++ p ∷ []) z) (sym e) (Contains-push list p),
            )
      ];
      listed = λ y c. Contains-append_left list (p ∷ []) y (v.listed y c);
      only = λ y c. elim (Contains-push_cases list p y c) [
        | inl a ↦ elim (v.only y a) [ inl b ↦ inl b | inr b ↦ inr (take_before ps k y h b) ]
        | inr e ↦ inr (subst (λ z. Contains (take (k + 1) ps) z) e (take_last ps k h))
      ];
      fewer =
          let u = free_set row (category_of i p) p l free far in
          let f = v.fewer in omega (arith, length-append list (p ∷ []));
    }

-- a place with another member
pub visit_meets : (i : Instance) (ps : List ℕ) (k : ℕ) (before row old list : List ℕ) (q : ℕ) → k < length ps
    → category_of i (get_or ps k 0) < length row → get_or row (category_of i (get_or ps k 0)) 0 ≡ q → q ≢ none
    → q ≢ get_or ps k 0
    → IsVisit i (take k ps) before row old list → Meets i ps before
visit_meets i ps k before row old list q h l e n apart v =
    let p = get_or ps k 0 in
    let t = v.own.own (category_of i p) l (λ r. n (sym e ∙ r)) in
    let inside : q < length i = subst (λ y. y < length i) e t.0 in
    let same : category_of i q ≡ category_of i p = ap (category_of i) (sym e) ∙ t.1 in
    let stands : IsIn i row q = ap (λ d. get_or row d 0) same ∙ e in
    record {
      one = p;
      other = q;
      is_parent = take_within ps (k + 1) p (take_last ps k h);
      other_is = (inside, elim (v.fresh q inside stands) [ inl a ↦ inl a | inr a ↦ inr (take_within ps k q a.0) ]);
      same_category = sym same;
      apart = λ r. apart (sym r);
    }

-- a parent's category has a place
pub visit_room : {i : Instance} {z k n : ℕ} {m : MemberId} {before row old list : List ℕ} → IsParentAt i z k m
    → IsBounded i n → IsVisit i (take k (parents_of i z)) before row old list → length before ≡ n → (d : ℕ)
    → d ≡ category_of i m.0 → d < length row
visit_room {m = m} at bounded v size d d_is =
    let c = bounded.categories m.0 (parent_member at) in omega (arith, v.same_length, size, c, d_is)

-- what the code does at the k-th parent, whose place d has q
module _ {i : Instance} {z k n : ℕ} {m : MemberId} (at : IsParentAt i z k m) (bounded : IsBounded i n)
    {before row old list : List ℕ} (v : IsVisit i (take k (parents_of i z)) before row old list)
    (size : length before ≡ n) (d q : ℕ) (d_is : d ≡ category_of i m.0) (q_is : q ≡ get_or row d q) where
  abbrev p : ℕ
  p = get_or (parents_of i z) k 0

  -- the place of the parent that is read
  place : d ≡ category_of i p
  place = d_is ∙ ap (category_of i) at.is

  -- there is such a place
  room : category_of i p < length row
  room = let c = bounded.categories p at.member in omega (arith, v.same_length, size, c)

  -- what stands there
  found : get_or row (category_of i p) 0 ≡ q
  found =
      let inside : d < length row = subst (λ e. e < length row) (sym place) room in
      ap (λ e. get_or row e 0) (sym place) ∙ get_or_default row d 0 q inside ∙ sym q_is

  -- it is free
  pub visit_pushed : q ≡ none
      → IsVisit i (take (k + 1) (parents_of i z)) before (set row d m.0) old (list ++ m.0 ∷ [])
  visit_pushed e =
      let all = parents_of i z in
      let t = visit_push i all k before row old list bounded.few at.inside (bounded.places z) room (found ∙ e) v in
      let r : set row (category_of i p) p ≡ set row d m.0 = λ j. set row (sym place j) (sym at.is j) in
      subst (λ l. IsVisit i (take (k + 1) all) before (set row d m.0) old (list ++ l ∷ [])) (sym at.is)
      (subst (λ w. IsVisit i (take (k + 1) all) before w old (list ++ p ∷ [])) r t)

  -- it has the parent
  pub visit_skipped : q ≡ m.0 → IsVisit i (take (k + 1) (parents_of i z)) before row old list
  visit_skipped e = visit_skip i (parents_of i z) k before row old list at.inside (found ∙ e ∙ at.is) v

  -- it has another member
  pub visit_met : q ≢ none → q ≢ m.0 → Meets i (parents_of i z) before
  visit_met far apart =
      visit_meets i (parents_of i z) k before row old list q at.inside room found far (λ e. apart (e ∙ sym at.is)) v

-- all parents are visited
pub visited_all : {i : Instance} {k : ℕ} {before row old list : List ℕ} (z : ℕ) (ids : List MemberId)
    → places ids ≡ parents_of i z → length ids ≤ k → IsVisit i (take k (parents_of i z)) before row old list
    → VisitGives true i (parents_of i z) before row old list
visited_all {i} {k} {before} {row} {old} {list} z ids e h v = record {
  visited = λ _. subst (λ l. IsVisit i l before row old list) (take_read i z k ids e h) v;
  met = λ q. absurd (cc);
}

-- a place has another member
pub met_one : {i : Instance} {ps before row old list : List ℕ} → Meets i ps before
    → VisitGives false i ps before row old list
met_one m = record { visited = λ q. absurd (cc); met = λ _. m }
