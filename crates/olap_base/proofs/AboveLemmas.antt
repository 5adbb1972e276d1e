-- The members that one member of a lawful instance reaches are a lawful instance with at most one member per category.
use Rattle.std.proofs.Common.{◌≡◌, ℕ, zero, suc, ◌+◌, ◌<◌, ◌≤◌, List, [], ◌∷◌, length, map, get_or, Bool, true, false, cond, refl, sym, ap, subst, ◌∙◌, inl, inr, arith}
use Rattle.std.proofs.lemmas.{Bool.{false_from_ne_true, cases_order}, List.{get_or-map, length-map}}
use Rattle.std.proofs.lemmas.List.{Elements.Contains-get_or, FromFn.{length-range_with_len, get_or-range_with_len}}
use Rattle.std.proofs.lemmas.List.Kept.{IsStrictlyIncreasing-filter, AllPairs-from_increasing}
use Rattle.std.specs.{List.range_with_len, List.Sorted.IsStrictlyIncreasing, Prelude.{AllPairs, ◌≢◌, Contains}}
use Rattle.olap_base.proofs.ListLemmas.{Contains-map, Contains-from_map, Contains-filter, Contains-from_filter, Contains-range, Contains-from_range, place_in_is}
use Rattle.olap_base.proofs.Part.{IsPart, increasing_injective, part_lawful, part_instance, part_lift}
use Rattle.olap_base.specs.Above.{members_above, place_in, above, self_above, HasOneMemberEach}
use Rattle.olap_base.specs.{Deciding.{below_is_member, contains_cases}, Graph.Graph}
use Rattle.olap_base.specs.Instance.{Instance, nobody, IsInstance, IsLawful, IsBelow, Reaches, category_of, name_of, member_at, parents_of}
use Rattle.olap_base.specs.Reaching.{reaches, reaches_is}
use Rattle.olap_base.specs.Steps.{Steps, Steps.here, Steps.step, Climb, Climb.climb, Steps-append, Steps-cases, leads_from_Climb, Steps-from_reaches, reaches_from_Steps}
use native.Mathlib.Decide.{ℕ_discrete}

-- ---- what a member of a lawful instance reaches

module _ (g : Graph) (i : Instance) (w : IsLawful g i) where
  -- in each category at most one
  pub reached_once : (x y z : ℕ) → Steps (IsBelow i) x y → Steps (IsBelow i) x z → category_of i y ≡ category_of i z
      → y ≡ z
  reached_once x y z s t q = elim (Steps-cases s) [
    | inl a ↦ elim (Steps-cases t) [
      | inl b ↦ sym a ∙ b
      | inr b ↦ absurd (w.stratification x z (leads_from_Climb b) (ap (category_of i) a ∙ q))
    ]
    | inr a ↦ elim (Steps-cases t) [
      | inl b ↦ absurd (w.stratification x y (leads_from_Climb a) (ap (category_of i) b ∙ sym q))
      | inr b ↦ w.partitioning x y z (leads_from_Climb a) (leads_from_Climb b) q
    ]
  ]

  -- nothing stands above itself
  no_cycle : (x : ℕ) → Climb (IsBelow i) x x → ⊥
  no_cycle x c = w.stratification x x (leads_from_Climb c) refl

-- ---- each member reaches `all`

-- how many numbers pass
abbrev tally : (ℕ → Bool) → List ℕ → ℕ
tally p [] = 0
tally p (x ∷ xs) = cond (p x) (suc (tally p xs)) (tally p xs)

-- a test that passes wherever another does counts no less
pub tally-le : (p q : ℕ → Bool) (xs : List ℕ) → ((y : ℕ) → p y ≡ true → q y ≡ true) → tally p xs ≤ tally q xs
tally-le p q [] h = omega arith
tally-le p q (x ∷ xs) h = go (p x) (q x) (h x) (tally-le p q xs h)
  where
    go : (a b : Bool) → (a ≡ true → b ≡ true) → tally p xs ≤ tally q xs
        → cond a (suc (tally p xs)) (tally p xs) ≤ cond b (suc (tally q xs)) (tally q xs)
    go true true h l = omega arith
    go true false h l = absurd (let e : false ≡ true = h refl in cc)
    go false true h l = omega arith
    go false false h l = omega arith

-- and more, where a number in the list passes only the second
pub tally-lt : (p q : ℕ → Bool) (xs : List ℕ) → ((y : ℕ) → p y ≡ true → q y ≡ true) → (z : ℕ) → Contains xs z
    → p z ≡ false → q z ≡ true → tally p xs < tally q xs
tally-lt p q [] h z c a b = absurd (omega (arith, c.1))
tally-lt p q (x ∷ xs) h z c a b = elim (contains_cases z x xs c) [
  | inl e ↦ now (p x) (q x) (ap p e ∙ a) (ap q e ∙ b) (tally-le p q xs h)
  | inr d ↦ go (p x) (q x) (h x) (tally-lt p q xs h z d a b)
]
  where
    now : (s t : Bool) → s ≡ false → t ≡ true → tally p xs ≤ tally q xs
        → cond s (suc (tally p xs)) (tally p xs) < cond t (suc (tally q xs)) (tally q xs)
    now true t e f l = absurd (cc)
    now false true e f l = omega arith
    now false false e f l = absurd (cc)

    go : (a b : Bool) → (a ≡ true → b ≡ true) → tally p xs < tally q xs
        → cond a (suc (tally p xs)) (tally p xs) < cond b (suc (tally q xs)) (tally q xs)
    go true true h l = omega arith
    go true false h l = absurd (let e : false ≡ true = h refl in cc)
    go false true h l = omega arith
    go false false h l = omega arith

-- how many members x reaches
reached_count : Instance → ℕ → ℕ
reached_count i x = tally (reaches i x) (range_with_len 0 (length i))

-- what the test finds is some steps away
pub steps_of : (i : Instance) (x y : ℕ) → reaches i x y ≡ true → Steps (IsBelow i) x y
steps_of i x y e = Steps-from_reaches ((reaches_is i x y).0 e)

-- what is some steps away is found by the test
pub reaches_of : (i : Instance) (x y : ℕ) → Steps (IsBelow i) x y → reaches i x y ≡ true
reaches_of i x y s = (reaches_is i x y).1 (reaches_from_Steps s)

-- a parent reaches fewer
parent_reaches_fewer : (g : Graph) (i : Instance) → IsLawful g i → (x y : ℕ) → IsBelow i x y
    → reached_count i y < reached_count i x
unfolding reached_count
parent_reaches_fewer g i w x y b = tally-lt (reaches i y) (reaches i x) (range_with_len 0 (length i))
    (λ z e. reaches_of i x z (step b (steps_of i y z e)))
    x (Contains-range (length i) x (below_is_member i x y b))
    (false_from_ne_true (reaches i y x) (λ e. no_cycle g i w x (climb b (steps_of i y x e))))
    (reaches_of i x x here)

-- by induction on how many it reaches, a member has steps to the last one
climbs_to_all : (g : Graph) (i : Instance) → IsInstance i → IsLawful g i → (n x : ℕ) → reached_count i x < n
    → x < length i → (a : ℕ) × (suc a ≡ length i) × Steps (IsBelow i) x a
climbs_to_all g i v w zero x l h = absurd (omega arith)
climbs_to_all g i v w (suc n) x l h = elim (ℕ_discrete (category_of i x) 0) [
  | yes e ↦ (x, (v.all_is_last x h).0 e, here)
  | no m ↦ let t = w.up_connectivity x h m in
      let f : reached_count i t.0 < reached_count i x = parent_reaches_fewer g i w x t.0 t.1 in
      let u = climbs_to_all g i v w n t.0 (omega arith) (v.parents_are_members x t.0 t.1) in
      (u.0, u.1, step t.1 u.2)
]

-- each member has steps to the last one, which is `all`
pub reaches_all : (g : Graph) (i : Instance) → IsInstance i → IsLawful g i → (x : ℕ) → x < length i
    → (a : ℕ) × (suc a ≡ length i) × Steps (IsBelow i) x a
reaches_all g i v w x h = climbs_to_all g i v w (suc (reached_count i x)) x (omega arith) h

-- ---- the members above x

-- what is listed above x is a member some steps away
pub members_above_is : (i : Instance) (x y : ℕ) → Contains (members_above i x) y
    → (y < length i) × Steps (IsBelow i) x y
members_above_is i x y c =
    let t = Contains-from_filter (reaches i x) (range_with_len 0 (length i)) y c in
    (Contains-from_range (length i) y t.0, steps_of i x y t.1)

-- a member some steps away is listed above x
pub is_above : (i : Instance) (x y : ℕ) → y < length i → Steps (IsBelow i) x y → Contains (members_above i x) y
is_above i x y h s =
    Contains-filter (reaches i x) (range_with_len 0 (length i)) y (reaches_of i x y s)
    (Contains-range (length i) y h)

-- the numbers from 0 on rise
range_increases : (n : ℕ) → IsStrictlyIncreasing (range_with_len 0 n)
range_increases n k h = let l : k + 1 < n = simp length-range_with_len at h in
    let a : get_or (range_with_len 0 n) k 0 ≡ 0 + k = get_or-range_with_len 0 n k 0 (omega arith) in
    let b : get_or (range_with_len 0 n) (k + 1) 0 ≡ 0 + (k + 1) =
    get_or-range_with_len 0 n (k + 1) 0 l in omega arith

-- the place of each distinct number tells it
pub place_in_injective : (xs : List ℕ) (y z : ℕ) → Contains xs y → Contains xs z → place_in xs y ≡ place_in xs z →
    y ≡ z
place_in_injective xs y z c d e = sym (place_in_is xs y c).1 ∙ ap (λ k. get_or xs k 0) e ∙ (place_in_is xs z d).1

-- x's member in the part above
module _ (i : Instance) (x : ℕ) (v : IsInstance i) where
  -- a member of the part is that of the whole, its parents told by their places in the part
  at_above : (k : ℕ) → k < length (members_above i x)
      → member_at (above i x) k
      ≡ record
      (member_at i (get_or (members_above i x) k 0)) {
        parents = map (place_in (members_above i x))
            (parents_of i (get_or (members_above i x) k 0));
      }
  at_above k h =
      get_or-map (λ y. record (member_at i y) { parents = map (place_in (members_above i x)) (parents_of i y) })
      (members_above i x) k 0 nobody h

  -- the part has as many members as are listed
  length_above : length (above i x) ≡ length (members_above i x)
  length_above =
      length-map (members_above i x)
      (λ y. record (member_at i y) { parents = map (place_in (members_above i x)) (parents_of i y) })

  -- each member of the part is one of those listed
  listed : (k : ℕ) → k < length (above i x) → Contains (members_above i x) (get_or (members_above i x) k 0)
  listed k h = Contains-get_or (members_above i x) k 0 (rw (← length_above) h)

  -- a parent of one that is listed is listed
  closed : (y z : ℕ) → Contains (members_above i x) y → IsBelow i y z → Contains (members_above i x) z
  closed y z c b =
      is_above i x z (v.parents_are_members y z b) (Steps-append (members_above_is i x y c).1 (step b here))

  -- its parents are the places of those it has in the whole
  parents_above : (k : ℕ) → k < length (above i x)
      → parents_of (above i x) k
      ≡ map (place_in (members_above i x)) (parents_of i (get_or (members_above i x) k 0))
  parents_above k h = ap (λ m. m.parents) (at_above k (rw (← length_above) h))

  -- a parent in the part comes from a parent in the whole
  from_below : (k l : ℕ) → IsBelow (above i x) k l
      → (l < length (above i x)) × IsBelow i (get_or (members_above i x) k 0) (get_or (members_above i x) l 0)
  from_below k l b =
      let h = below_is_member (above i x) k l b in
      let c : Contains (map (place_in (members_above i x)) (parents_of i (get_or (members_above i x) k 0))) l =
      subst (λ ps. Contains ps l) (parents_above k h) b in
      let t = Contains-from_map (place_in (members_above i x))
      (parents_of i (get_or (members_above i x) k 0)) l c in
      let u = place_in_is (members_above i x) t.0 (closed (get_or (members_above i x) k 0) t.0 (listed k h) t.1) in (
        rw (length_above, ← t.2) u.0,
        subst (λ y. IsBelow i (get_or (members_above i x) k 0) y)
            (sym u.1 ∙ ap (λ m. get_or (members_above i x) m 0) t.2) t.1,
      )

  -- a parent in the whole has a place in the part
  to_above : (k y : ℕ) → k < length (above i x) → IsBelow i (get_or (members_above i x) k 0) y
      → (l : ℕ) × IsBelow (above i x) k l × (get_or (members_above i x) l 0 ≡ y)
  to_above k y h b =
      let u = place_in_is (members_above i x) y (closed (get_or (members_above i x) k 0) y (listed k h) b) in (
        place_in (members_above i x) y,
        subst (λ ps. Contains ps (place_in (members_above i x) y))
            (sym (parents_above k h))
            (Contains-map (place_in (members_above i x))
            (parents_of i (get_or (members_above i x) k 0)) y b),
        u.1,
      )

  -- the members of the part stand in the cases_order of the whole
  increasing_above : (k l : ℕ) → k < l → l < length (above i x)
      → get_or (members_above i x) k 0 < get_or (members_above i x) l 0
  increasing_above k l a h =
      AllPairs-from_increasing (members_above i x)
      (IsStrictlyIncreasing-filter (reaches i x) (range_with_len 0 (length i))
      (range_increases (length i))) k l 0 a (rw (← length_above) h)

  -- an id in the part is that in the whole
  pub id_above : (k : ℕ) → k < length (above i x)
      → (member_at (above i x) k).id ≡ (member_at i (get_or (members_above i x) k 0)).id
  id_above k h = ap (λ m. m.id) (at_above k (rw (← length_above) h))

  -- a name in the part is that in the whole
  pub name_above : (k : ℕ) → k < length (above i x) →
      name_of (above i x) k ≡ name_of i (get_or (members_above i x) k 0)
  name_above k h = ap (λ m. m.name) (at_above k (rw (← length_above) h))

  -- the members above x are a part of the instance
  pub above_is_part : IsPart i (above i x) (λ k. get_or (members_above i x) k 0)
  above_is_part = record {
    member = λ k h. (members_above_is i x (get_or (members_above i x) k 0) (listed k h)).0;
    category = λ k h. ap (λ m. m.category) (at_above k (rw (← length_above) h));
    inside = λ k l b. (from_below k l b).0;
    below = λ k l b. (from_below k l b).1;
    above = to_above;
    injective = increasing_injective (length (above i x)) (λ k. get_or (members_above i x) k 0) increasing_above;
  }

  -- no parent stands twice in the part
  parents_differ_above : (k : ℕ) → AllPairs ◌≢◌ (parents_of (above i x) k)
  parents_differ_above k a b d l h q =
      let in' = has_parent (above i x) k b h in
      let f = place_in (members_above i x) in
      let ps = parents_of i (get_or (members_above i x) k 0) in
      let e = parents_above k in' in
      let n : length (parents_of (above i x) k) ≡ length ps = ap length e ∙ length-map ps f in
      let hb : b < length ps = omega arith in
      let ha : a < length ps = omega arith in
      let fa : get_or (parents_of (above i x) k) a d ≡ f (get_or ps a 0) =
      ap (λ us. get_or us a d) e ∙ get_or-map f ps a 0 d ha in
      let fb : get_or (parents_of (above i x) k) b d ≡ f (get_or ps b 0) =
      ap (λ us. get_or us b d) e ∙ get_or-map f ps b 0 d hb in
      let y = get_or (members_above i x) k 0 in
      v.parents_differ y a b 0 l hb (place_in_injective (members_above i x) (get_or ps a 0) (get_or ps b 0)
      (closed y (get_or ps a 0) (listed k in') (Contains-get_or ps a 0 ha))
      (closed y (get_or ps b 0) (listed k in') (Contains-get_or ps b 0 hb)) (sym fa ∙ q ∙ fb))
    where
      has_parent : (j : Instance) (k b : ℕ) → b < length (parents_of j k) → k < length j
      has_parent j k b h =
          below_is_member j k (get_or (parents_of j k) b 0) (Contains-get_or (parents_of j k) b 0 h)

  -- the member itself stands in the part, at its place
  pub self_is : x < length i
      → (self_above i x < length (above i x)) × (get_or (members_above i x) (self_above i x) 0 ≡ x)
  self_is h = let t = place_in_is (members_above i x) x (is_above i x x h here) in (rw length_above t.0, t.1)

  -- and reaches each member of it
  pub self_reaches : x < length i → (k : ℕ) → k < length (above i x) → Reaches (above i x) (self_above i x) k
  self_reaches h k l =
      let t = self_is h in
      let u = part_lift i (above i x) (λ m. get_or (members_above i x) m 0) above_is_part
      (members_above_is i x (get_or (members_above i x) k 0) (listed k l)).1 (self_above i x) t.0 t.1 in
      let e = above_is_part.injective u.0 k (inside u.1 t.0) l u.2 in
      reaches_from_Steps (subst (λ m. Steps (IsBelow (above i x)) (self_above i x) m) e u.1)
    where
      inside : {a b : ℕ} → Steps (IsBelow (above i x)) a b → a < length (above i x) → b < length (above i x)
      inside here q = q
      inside (step {x = a} {y = m} r s) q = inside s (from_below a m r).0

  -- the part is an instance
  pub above_instance : (g : Graph) → IsLawful g i → x < length i → IsInstance (above i x)
  above_instance g w h =
      let e = λ (m : ℕ). get_or (members_above i x) m 0 in
      let t = reaches_all g i v w x h in
      let in' : t.0 < length i = let q = t.1 in omega arith in
      let u = place_in_is (members_above i x) t.0 (is_above i x t.0 in' t.2) in
      let a = place_in (members_above i x) t.0 in
      let ha : a < length (above i x) = rw length_above u.0 in
      let q : suc (e a) ≡ length i = ap suc u.1 ∙ t.1 in
      part_instance i (above i x) e above_is_part a v (last a ha q) q
      (λ k l hk hl r. above_is_part.injective k l hk hl
      (v.ids_differ (e k) (e l) (above_is_part.member k hk) (above_is_part.member l hl)
      (sym (id_above k hk) ∙ r ∙ id_above l hl)))
      parents_differ_above (id_above a ha) (name_above a ha)
    where
      -- `all` is the last of the part, since the places rise
      last : (a : ℕ) → a < length (above i x) → suc (get_or (members_above i x) a 0) ≡ length i
          → suc a ≡ length (above i x)
      last a ha q = elim (cases_order (suc a) (length (above i x))) [
        | inl s ↦ s
        | inr s ↦ elim s [
          | inl l ↦ let f : get_or (members_above i x) a 0 < get_or (members_above i x) (suc a) 0 =
              increasing_above a (suc a) (omega arith) l in
              let m : get_or (members_above i x) (suc a) 0 < length i = above_is_part.member (suc a) l in
              absurd (omega arith)
          | inr l ↦ absurd (omega arith)
        ]
      ]

  -- the part of a lawful instance is lawful
  pub above_lawful : (g : Graph) → IsLawful g i → IsLawful g (above i x)
  above_lawful g w = part_lawful i (above i x) (λ m. get_or (members_above i x) m 0) above_is_part g w

  -- in the part of a lawful instance each category has at most one member
  pub one_member_each : (g : Graph) → IsLawful g i → HasOneMemberEach (above i x)
  one_member_each g w k l hk hl q =
      let e = λ (m : ℕ). get_or (members_above i x) m 0 in
      above_is_part.injective k l hk hl
      (reached_once g i w x (e k) (e l) (members_above_is i x (e k) (listed k hk)).1
      (members_above_is i x (e l) (listed l hl)).1
      (sym (above_is_part.category k hk) ∙ q ∙ above_is_part.category l hl))
