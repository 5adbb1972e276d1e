-- The walk upwards from one member: what is reached, and what is listed.
use Rattle.std.proofs.Common.{◌≡◌, ℕ, ◌<◌, List, [], ◌∷◌, ◌++◌, length, get_or, set, refl, ap, sym, subst, ◌∙◌, inl, inr, arith}
use Rattle.std.proofs.lemmas.List.{length-replicate, get_or-replicate}
use Rattle.std.proofs.lemmas.List.Elements.{Contains-append_left, Contains-push, Contains-push_cases, Contains-get_or}
use Rattle.std.specs.Prelude.{Contains, replicate}
use Rattle.olap_base.{proofs.ListLemmas.Contains-nil, specs.Deciding.contains_cases}
use Rattle.olap_base.specs.Instance.{Instance, IsBelow, category_of, parents_of}
use Rattle.olap_base.specs.Steps.{Steps, Steps.here, Steps.step, Steps-append, Steps-from_reaches, reaches_from_Steps}
use Rattle.olap_legal.proofs.{ParentLemmas.places, RisingLemmas.{same_in, from_in, own_set}}
use Rattle.olap_legal.specs.Rows.{none, IsBounded, IsIn, IsRise, Splits, IsVisit, Meets, IsFrontier}

-- the walk begins at x
pub frontier_start : {i : Instance} {n x : ℕ} {row list : List ℕ} → IsBounded i n → x < length i
    → row ≡ replicate n none → list ≡ x ∷ [] → IsFrontier i x (set row (category_of i x) x) list
frontier_start {i} {n} {x} {row} {list} made inside e q =
    let few = made.few in
    let size : length row ≡ n = ap length e ∙ length-replicate n none in
    let room : category_of i x < length row = let m = made.categories x inside in omega arith in
    let empty : (d : ℕ) → d < length row → get_or row d 0 ≡ none =
    λ d h. ap (λ r. get_or r d 0) e ∙ get_or-replicate n d none 0 (subst (λ k. d < k) size h) in
    let none_in : (y : ℕ) → y < length i → IsIn i row y → ⊥ =
    λ y h m. far y h
    (sym m ∙ empty (category_of i y) (subst (λ k. category_of i y < k) (sym size) (made.categories y h))) in
    let only : (P : ℕ → Type 0) (y : ℕ) → y < length i → IsIn i (set row (category_of i x) x) y → P x → P y =
    λ P y h m p. elim (from_in i row x few inside room y m) [
      | inl a ↦ absurd (none_in y h a)
      | inr s ↦
          subst P (sym s) p
    ] in
    record {
      own = own_set i row x few inside room (record { own = λ d h ne. absurd (ne (empty d h)) });
      inside = inside;
      start = same_in i row x few inside room;
      reached = λ y h m. only (λ z. Steps (IsBelow i) x z) y h m here;
      listed = λ y c. let t : x ≡ y = alone y c in (
        subst (λ z. z < length i) t inside,
        subst (λ z. IsIn i (set row (category_of i x) x) z) t
            (same_in i row x few inside room),
      );
      closed =
          λ z h m. inl (only (λ w. Contains list w) z h m (subst (λ l. Contains l x) (sym q) (0, omega arith, refl)));
    }
  where
    far : (y : ℕ) → y < length i → y ≡ none → ⊥
    far y h t = absurd (let f = made.few in omega arith)

    alone : (y : ℕ) → Contains list y → x ≡ y
    alone y c =
        elim (contains_cases y x [] (subst (λ l. Contains l y) q c)) [ inl t ↦ t | inr k ↦ absurd (Contains-nil y k) ]

-- a listed member is visited
pub frontier_next : {i : Instance} {x : ℕ} {row after list new : List ℕ} (rest : List ℕ) (z : ℕ)
    → ((a b : ℕ) → IsBelow i a b → b < length i) → IsFrontier i x row list → list ≡ rest ++ z ∷ []
    → IsVisit i (parents_of i z) row after rest new → IsFrontier i x after new
frontier_next {i} {x} {row} rest z places whole taken_off v =
    let f = subst (λ l. IsFrontier i x row l) taken_off whole in
    let z_listed = f.listed z (Contains-push rest z) in
    let z_reached = f.reached z z_listed.0 z_listed.1 in
    record {
      own = v.own;
      inside = f.inside;
      start = v.kept x f.inside f.start;
      reached =
          λ y h m. elim (v.fresh y h m) [ inl a ↦ f.reached y h a | inr a ↦ Steps-append z_reached (step a.0 here) ];
      listed = λ y c. elim (v.only y c) [
        | inl a ↦ let t = f.listed y (Contains-append_left rest (z ∷ []) y a) in (t.0, v.kept y t.0 t.1)
        | inr a ↦ (places z y a, v.done y a)
      ];
      closed = λ w h m. elim (v.fresh w h m) [
        | inl a ↦ elim (f.closed w h a) [
          | inl c ↦ elim (Contains-push_cases rest z w c) [
            | inl d ↦ inl (v.listed w d)
            | inr e ↦ inr (λ y b. v.done y (subst (λ u. IsBelow i u y) (sym e) b))
          ]
          | inr c ↦ inr (λ y b. v.kept y (places w y b) (c y b))
        ]
        | inr a ↦ inl a.1
      ];
    }

-- a place with another member: x reaches both
pub frontier_splits : {i : Instance} {x : ℕ} {row list : List ℕ} (rest : List ℕ) (z : ℕ)
    → IsFrontier i x row list → list ≡ rest ++ z ∷ [] → Meets i (parents_of i z) row → Splits i x
frontier_splits {i} {x} {row} rest z whole taken_off m =
    let f = subst (λ l. IsFrontier i x row l) taken_off whole in
    let z_listed = f.listed z (Contains-push rest z) in
    let z_reached = f.reached z z_listed.0 z_listed.1 in
    record {
      one = m.one;
      other = m.other;
      reaches_one = reaches_from_Steps (Steps-append z_reached (step m.is_parent here));
      reaches_other =
          reaches_from_Steps
          (elim m.other_is.1 [
            | inl a ↦ f.reached m.other m.other_is.0 a
            | inr b ↦
                Steps-append z_reached (step b here)
          ]);
      same_category = m.same_category;
      apart = m.apart;
    }

-- with nothing listed, what is above a member that is in is in
all_in : (i : Instance) (x : ℕ) (row : List ℕ) → ((a b : ℕ) → IsBelow i a b → b < length i) → IsFrontier i x row []
    → {a y : ℕ} → Steps (IsBelow i) a y → a < length i → IsIn i row a → IsIn i row y
all_in i x row places f here h m = m
all_in i x row places f (step {x = a} {y = b} r s) h m =
    all_in i x row places f s (places a b r)
    (elim (f.closed a h m) [ inl c ↦ absurd (Contains-nil a c) | inr c ↦ c b r ])

-- the walk has ended
pub frontier_done : {i : Instance} {x : ℕ} {row list : List ℕ} → ((a b : ℕ) → IsBelow i a b → b < length i)
    → IsFrontier i x row list → list ≡ [] → IsRise i (length row) x row
frontier_done {i} {x} {row} places whole none_left =
    let f = subst (λ l. IsFrontier i x row l) none_left whole in
    record {
      same_length = refl;
      own = f.own;
      exact = λ y h. (
        λ m. reaches_from_Steps (f.reached y h m),
        λ r. all_in i x row places f (Steps-from_reaches r) f.inside f.start,
      );
    }

-- a parent that is read from the list is a member
pub parent_inside : (i : Instance) (z k : ℕ) (ps : List ℕ) → ps ≡ parents_of i z
    → ((y : ℕ) → IsBelow i z y → y < length i) → k < length ps → get_or ps k 0 < length i
parent_inside i z k ps e places h =
    places (get_or ps k 0) (subst (λ l. Contains l (get_or ps k 0)) e (Contains-get_or ps k 0 h))
