-- The search upwards for a member of one category, and the first member that finds one.
use Rattle.std.proofs.Common.{◌≡◌, ◌≢◌, ℕ, ◌+◌, ◌<◌, ◌≤◌, List, [], ◌∷◌, ◌++◌, length, get_or, Bool, true, false, ap, sym, subst, ◌∙◌, inl, inr, arith}
use Rattle.std.proofs.lemmas.List.{length-replicate}
use Rattle.std.proofs.lemmas.List.Elements.{Contains-append_left, Contains-push, Contains-push_cases}
use Rattle.std.specs.Prelude.{Contains, replicate}
use Rattle.olap_base.{proofs.ListLemmas.{Contains-nil, none_marked}, specs.Deciding.below_is_member}
use Rattle.olap_base.specs.Graph.{Graph, HasEdge, CategoryReaches}
use Rattle.olap_base.specs.Instance.{Instance, IsBelow, IsFarBelow, category_of, parents_of}
use Rattle.olap_base.specs.Steps.{Steps, Steps.here, Steps.step, Climb, Climb.climb, Steps-append, Climb-from_leads, leads_from_Climb, Steps-climb, reaches_from_Steps}
use Rattle.olap_graph.specs.Tables.{IsMarked}
use Rattle.olap_legal.{proofs.ParentLemmas.{edges_along, taken}, specs.Marks.{IsPassed, IsMarking, Hits}}
use Rattle.olap_legal.specs.Rows.{IsBounded, AreLinked}
use Rattle.olap_check.specs.Strata.{IsOnCycle, Repeats, HasNoneAbove, IsFirstIn, IsFirstOf, IsClosed, IsSearch, RepeatGives}
use native.Mathlib.Decide.{ℕ_discrete}

module _ {i : Instance} {c : ℕ} (x : ℕ) (inside : (a b : ℕ) → IsBelow i a b → b < length i) where
  -- the parents of x, over marks that are closed
  pub search_start : {marks after : List Bool} {old new : List ℕ} → IsClosed i c marks → old ≡ []
      → IsMarking i c (parents_of i x) marks after old new → IsSearch i c x after new
  search_start d e v = record {
    same_length = v.same_length ∙ d.same_length;
    parents = v.done;
    listed = λ y k. elim (v.only y k) [
      | inl a ↦ absurd (Contains-nil y (subst (λ l. Contains l y) e a))
      | inr a ↦ (inside x y a, step a here)
    ];
    closed = λ z m. elim (v.fresh z m) [
      | inl a ↦ inr (λ y b. ((d.closed z a y b).0, v.kept y (d.closed z a y b).1))
      | inr a ↦ inl a.1
    ];
  }

  -- the parents of a listed member are marked
  pub search_next : {marks after : List Bool} {list new : List ℕ} (rest : List ℕ) (z : ℕ) → IsSearch i c x marks list
      → list ≡ rest ++ z ∷ [] → IsMarking i c (parents_of i z) marks after rest new → IsSearch i c x after new
  search_next {marks} rest z whole taken_off v =
      let f = subst (λ l. IsSearch i c x marks l) taken_off whole in
      let z_listed = f.listed z (Contains-push rest z) in
      record {
        same_length = v.same_length ∙ f.same_length;
        parents = λ y b. ((f.parents y b).0, v.kept y (f.parents y b).1);
        listed = λ y k. elim (v.only y k) [
          | inl a ↦ f.listed y (Contains-append_left rest (z ∷ []) y a)
          | inr a ↦ (inside z y a, Steps-append z_listed.1 (step a here))
        ];
        closed = λ w m. elim (v.fresh w m) [
          | inl a ↦ elim (f.closed w a) [
            | inl k ↦ elim (Contains-push_cases rest z w k) [
              | inl d ↦ inl (v.listed w d)
              | inr e ↦ inr (λ y b. v.done y (subst (λ u. IsBelow i u y) (sym e) b))
            ]
            | inr k ↦ inr (λ y b. ((k y b).0, v.kept y (k y b).1))
          ]
          | inr a ↦ inl a.1
        ];
      }

  -- a parent of a listed member is of the category
  pub search_hits : {marks : List Bool} {list : List ℕ} (rest : List ℕ) (z : ℕ) → IsSearch i c x marks list
      → list ≡ rest ++ z ∷ [] → Hits i c (parents_of i z) → (y : ℕ) × IsFarBelow i x y × (category_of i y ≡ c)
  search_hits rest z f e m =
      (m.hit, leads_from_Climb (Steps-climb (f.listed z (taken rest z e)).1 (climb m.is_parent here)), m.category)

  -- a parent of x is of the category
  pub start_hits : Hits i c (parents_of i x) → (y : ℕ) × IsFarBelow i x y × (category_of i y ≡ c)
  start_hits m = (m.hit, leads_from_Climb (climb m.is_parent here), m.category)

-- above what is marked no member is of the category
above_marked : (i : Instance) (c : ℕ) (marks : List Bool) → IsClosed i c marks → {a y : ℕ} → Steps (IsBelow i) a y
    → IsPassed i c marks a → category_of i y ≢ c
above_marked i c marks d here p = p.0
above_marked i c marks d (step {x = a} {y = b} r s) p = above_marked i c marks d s (d.closed a p.1 b r)

-- so none is above x
pub none_above : (i : Instance) (c x : ℕ) (marks : List Bool) → IsClosed i c marks
    → ((y : ℕ) → IsBelow i x y → IsPassed i c marks y) → HasNoneAbove i c x
none_above i c x marks d ps y l = go (Climb-from_leads l)
  where
    go : Climb (IsBelow i) x y → category_of i y ≢ c
    go (climb {z = b} r s) = above_marked i c marks d s (ps b r)

-- with nothing listed the marks are closed
pub search_done : {i : Instance} {c x : ℕ} {marks : List Bool} {list : List ℕ} → IsSearch i c x marks list → list ≡ []
    → IsClosed i c marks × HasNoneAbove i c x
search_done {i} {c} {x} {marks} whole none_left = (d, none_above i c x marks d f.parents)
  where
    f : IsSearch i c x marks []
    f = subst (λ l. IsSearch i c x marks l) none_left whole

    d : IsClosed i c marks
    d = record {
      same_length = f.same_length;
      closed = λ z m. elim
          (f.closed z m) [ inl k ↦ absurd (Contains-nil z k) | inr k ↦ k ];
    }

-- what the search answers
pub found_far : {i : Instance} {c x : ℕ} {after : List Bool} → (y : ℕ) × IsFarBelow i x y × (category_of i y ≡ c)
    → RepeatGives true i c x after
found_far f = record { far = λ _. f; closed = λ q. absurd (cc) }

-- and if nothing was found, the marks are closed and there is none
pub found_none : {i : Instance} {c x : ℕ} {after : List Bool} → IsClosed i c after × HasNoneAbove i c x
    → RepeatGives false i c x after
found_none d = record { far = λ q. absurd (cc); closed = λ _. d }

-- ---- before any search

-- so no member is marked
pub unmarked_start : (n : ℕ) (marks : List Bool) → marks ≡ replicate n false → (y : ℕ) → IsMarked marks y → ⊥
unmarked_start n marks e y m =
    let t : false ≡ true = sym (none_marked n y) ∙ ap (λ l. get_or l y false) (sym e) ∙ m in cc

-- and so the marks are closed
pub closed_start : (i : Instance) (c n : ℕ) (marks : List Bool) → marks ≡ replicate n false → n ≡ length i
    → IsClosed i c marks
closed_start i c n marks e l = record {
  same_length = ap length e ∙ length-replicate n false ∙ l;
  closed =
      λ z m. absurd (let f : false ≡ true = sym (none_marked n z) ∙ ap (λ ms. get_or ms z false) (sym e) ∙ m in cc);
}

-- ---- the members of one category, in order

-- one more member that does not repeat
pub before_more : (i : Instance) (c x : ℕ) → ((w : ℕ) → w < x → category_of i w ≡ c → HasNoneAbove i c w)
    → (category_of i x ≡ c → HasNoneAbove i c x) → (w : ℕ) → w < x + 1 → category_of i w ≡ c → HasNoneAbove i c w
before_more i c x below at w h = elim (ℕ_discrete w x) [
  | yes e ↦ subst (λ v. category_of i v ≡ c → HasNoneAbove i c v) (sym e) at
  | no n ↦ let ne : w ≢ x = n in below w (omega arith)
]

-- no member below the limit repeats
pub first_at_limit : (i : Instance) (c limit x : ℕ) → limit ≤ x
    → ((w : ℕ) → w < x → category_of i w ≡ c → HasNoneAbove i c w) → IsFirstIn i c limit limit
first_at_limit i c limit x h below =
    record {
      within = omega arith;
      found = λ l. absurd (omega (arith, l));
      before = λ w l. below w
          (omega (arith, l, h));
    }

-- the first that repeats
pub first_found : (i : Instance) (c limit x y : ℕ) → x < limit → IsFarBelow i x y → category_of i y ≡ c
    → category_of i x ≡ c → ((w : ℕ) → w < x → category_of i w ≡ c → HasNoneAbove i c w) → IsFirstIn i c limit x
first_found i c limit x y h f e q below =
    record { within = omega arith; found = λ l. (y, f, q ∙ sym e); before = below }

-- ---- a category that lies on no cycle

-- no member of it is far below another
pub off_cycle : (g : Graph) (i : Instance) (c x : ℕ) → AreLinked g i → (IsOnCycle g c → ⊥) → category_of i x ≡ c
    → HasNoneAbove i c x
off_cycle g i c x l n e y f q = go (Climb-from_leads f)
  where
    go : Climb (IsBelow i) x y → ⊥
    go (climb {z = z} r s) =
        n (
          category_of i z,
          (
            subst (λ d. HasEdge g d (category_of i z)) e (l x z r),
            subst (CategoryReaches g (category_of i z)) q (reaches_from_Steps (edges_along g i l s)),
          ),
        )

-- none of its members repeats
pub first_off_cycle : (g : Graph) (i : Instance) (c limit : ℕ) → AreLinked g i → (IsOnCycle g c → ⊥)
    → IsFirstIn i c limit limit
first_off_cycle g i c limit l n = record {
  within = omega arith;
  found = λ h. absurd (omega (arith, h));
  before = λ x h e. off_cycle g i c x l n e;
}

-- ---- category after category

-- no category has been searched
pub first_start : (i : Instance) (n : ℕ) → n ≡ length i → IsFirstOf i 0 n
first_start i n e =
    record {
      within = omega arith;
      found = λ l. absurd (omega (arith, l, e));
      before = λ w l h. absurd
          (omega (arith, h));
    }

-- one more category
pub first_step : (i : Instance) (c first r : ℕ) → IsFirstOf i c first → IsFirstIn i c first r → IsFirstOf i (c + 1) r
first_step i c first r f s = record {
  within = let a = f.within in let b = s.within in omega arith;
  found = λ l. elim (ℕ_discrete r first) [
    | yes e ↦ subst (Repeats i) (sym e) (f.found (subst (λ k. k < length i) e l))
    | no n ↦ let ne : r ≢ first = n in let b = s.within in s.found (omega arith)
  ];
  before = λ w l h p. elim (ℕ_discrete (category_of i w) c) [
    | yes e ↦ s.before w l e p.0 p.1 (sym p.2 ∙ e)
    | no n ↦ let ne : category_of i w ≢ c = n in let b = s.within in f.before w (omega (arith, l)) (omega (arith, h)) p
  ];
}

-- no member repeats
pub first_none : (i : Instance) (n r c : ℕ) → IsBounded i n → n ≤ c → length i ≤ r → IsFirstOf i c r → (x : ℕ)
    → Repeats i x → ⊥
first_none i n r c made e h f x p =
    let inside : x < length i = far_is_member i x p.0 p.1 in
    f.before x (omega arith) (let m = made.categories x inside in omega arith) p
  where
    far_is_member : (i : Instance) (x y : ℕ) → IsFarBelow i x y → x < length i
    far_is_member i x y l = go (Climb-from_leads l)
      where
        go : Climb (IsBelow i) x y → x < length i
        go (climb {z = z} r s) = below_is_member i x z r
