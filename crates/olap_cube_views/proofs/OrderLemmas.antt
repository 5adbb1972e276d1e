-- The tuples of some categories ascend, and so do their keys.
use Rattle.std.proofs.Common.{◌≡◌, ℕ, zero, suc, ◌+◌, ◌<◌, ◌≤◌, List, [], ◌∷◌, length, map, Bool, true, false, cond, refl, sym, ap, subst, ◌∙◌, inl, inr, arith}
use Rattle.std.proofs.lemmas.{Cmp.ranked, List.Elements.Contains-append_cases}
use Rattle.std.specs.{Cmp.{nat_cmp_total, tied_itself}, Cmp.Lexicographic.slice_cmp, List.range_with_len}
use Rattle.std.specs.{Ordering.{MatchOrdering, nat_cmp, ordering_then}, Prelude.{Contains, filter, flat_map}}
use Rattle.std.specs.declared.cmp.Ordering.{Ordering, TheVariants.{Less, Equal, Greater}}
use Rattle.olap_base.proofs.ListLemmas.{Contains-from_filter, Contains-from_map, Contains-from_range_at, Contains-nil, contains_head}
use Rattle.olap_base.specs.{Deciding.contains_cons, Instance.Instance, Views.members_of}
use Rattle.olap_cube.{proofs.TupleLemmas.tuples_of_is, specs.Limits.most_dimensions, specs.Tuples.tuples_of}
use Rattle.olap_cube_views.proofs.{AncestorLemmas.tuple_length, KeyLemmas.filled_order}
use Rattle.olap_cube_views.{proofs.RowLemmas.{Ascends, ascends-append}, specs.CubeTallies.{key_cmp, key_of}}

-- ---- members

-- the lesser number comes first
less : (x y : ℕ) → x < y → nat_cmp x y ≡ Less
less x y h = go (nat_cmp x y) refl (ranked x y (nat_cmp x y) refl)
  where
    go : (r : Ordering) → nat_cmp x y ≡ r → MatchOrdering r (x < y) (x ≡ y) (y < x) → nat_cmp x y ≡ Less
    go Less e m = e
    go Equal e m = absurd (omega arith)
    go Greater e m = absurd (omega arith)

-- numbers from one on ascend
range-ascends : (a n : ℕ) → Ascends nat_cmp (range_with_len a n)
range-ascends a zero = tt
range-ascends a (suc n) = (
  λ u c. let h = Contains-from_range_at (a + 1) n u c in less a u (omega (arith, h.0)),
  range-ascends (a + 1) n,
)

-- so do those that pass a test
filter-ascends : {T : Type 0} (R : T → T → Ordering) (p : T → Bool) (xs : List T) → Ascends R xs
    → Ascends R (filter p xs)
filter-ascends R p [] a = tt
filter-ascends {T} R p (x ∷ xs) a = go (p x) (filter-ascends R p xs a.1)
  where
    go : (b : Bool) → Ascends R (filter p xs) → Ascends R (cond b (x ∷ filter p xs) (filter p xs))
    go true r = (λ u c. a.0 u (Contains-from_filter p xs u c).0, r)
    go false r = r

-- the members of a category ascend
members-ascend : (i : Instance) (c : ℕ) → Ascends nat_cmp (members_of i c)
members-ascend i c = filter-ascends nat_cmp _ (range_with_len 0 (length i)) (range-ascends 0 (length i))

-- ---- tuples

-- tuples are compared number by number
abbrev tuple_cmp : List ℕ → List ℕ → Ordering
tuple_cmp = slice_cmp nat_cmp

-- tuples with one first member ascend as the rest do
with-ascends : (y : ℕ) (ts : List (List ℕ)) → Ascends tuple_cmp ts → Ascends tuple_cmp (map (λ ys. y ∷ ys) ts)
with-ascends y [] a = tt
with-ascends y (t ∷ ts) a = (
  λ u c. let f = Contains-from_map (λ ys. y ∷ ys) ts u c in
      subst (λ w. tuple_cmp (y ∷ t) w ≡ Less) f.2
      (ap (λ r. ordering_then r (tuple_cmp t f.0)) (tied_itself nat_cmp_total y) ∙ a.0 f.0 f.1),
  with-ascends y ts a.1,
)

-- a tuple that begins with a lesser member is below
below : (y : ℕ) (t : List ℕ) (ts : List (List ℕ)) (zs : List ℕ) → ((z : ℕ) → Contains zs z → nat_cmp y z ≡ Less)
    → (u : List ℕ) → Contains (flat_map (λ z. map (λ ys. z ∷ ys) ts) zs) u → tuple_cmp (y ∷ t) u ≡ Less
below y t ts [] l u c = absurd (Contains-nil u c)
below y t ts (z ∷ zs) l u c =
    elim (Contains-append_cases (map (λ ys. z ∷ ys) ts) (flat_map (λ z. map (λ ys. z ∷ ys) ts) zs) u c) [
      | inl k ↦
          let f = Contains-from_map (λ ys. z ∷ ys) ts u k in
          subst (λ w. tuple_cmp (y ∷ t) w ≡ Less) f.2
          (ap (λ r. ordering_then r (tuple_cmp t f.0)) (l z (contains_head z zs)))
      | inr k ↦ below y t ts zs (λ x d. l x (contains_cons x zs z d)) u k
    ]

-- so do they over first members that ascend
flat-ascends : (ts : List (List ℕ)) (zs : List ℕ) → Ascends tuple_cmp ts → Ascends nat_cmp zs
    → Ascends tuple_cmp (flat_map (λ z. map (λ ys. z ∷ ys) ts) zs)
flat-ascends ts [] a b = tt
flat-ascends ts (z ∷ zs) a b =
    ascends-append tuple_cmp (map (λ ys. z ∷ ys) ts) (flat_map (λ z. map (λ ys. z ∷ ys) ts) zs) (with-ascends z ts a)
    (flat-ascends ts zs a b.1)
    (λ x u c d. let f = Contains-from_map (λ ys. z ∷ ys) ts x c in
    subst (λ w. tuple_cmp w u ≡ Less) f.2 (below z f.0 ts zs b.0 u d))

-- the tuples of some categories ascend
tuples-ascend : (is : List Instance) (cs : List ℕ) → Ascends tuple_cmp (tuples_of is cs)
tuples-ascend [] [] = (λ u c. absurd (Contains-nil u c), tt)
tuples-ascend [] (c ∷ cs) = tt
tuples-ascend (i ∷ is) [] = tt
tuples-ascend (i ∷ is) (c ∷ cs) =
    flat-ascends (tuples_of is cs) (members_of i c) (tuples-ascend is cs) (members-ascend i c)

-- ---- keys

-- what ascends by one order ascends by another that agrees with it
ascends-as : {T : Type 0} (R Q : T → T → Ordering) (ts : List T)
    → ((t u : T) → Contains ts t → Contains ts u → R t u ≡ Less → Q t u ≡ Less) → Ascends R ts → Ascends Q ts
ascends-as R Q [] f a = tt
ascends-as R Q (t ∷ ts) f a = (
  λ u c. f t u (contains_head t ts) (contains_cons u ts t c) (a.0 u c),
  ascends-as R Q ts (λ x y c d. f x y (contains_cons x ts t c) (contains_cons y ts t d)) a.1,
)

-- the keys of the tuples of some categories ascend
pub keys-ascend : (is : List Instance) (cs : List ℕ) → length is ≤ most_dimensions
    → Ascends (λ t u. key_cmp (key_of t) (key_of u)) (tuples_of is cs)
keys-ascend is cs few = ascends-as tuple_cmp (λ t u. key_cmp (key_of t) (key_of u)) (tuples_of is cs)
    (λ t u c d l.
    let m = tuple_length is cs t (tuples_of_is is cs t c) in
    let n = tuple_length is cs u (tuples_of_is is cs u d) in
    filled_order most_dimensions t u (m ∙ sym n) (omega arith) ∙ l)
    (tuples-ascend is cs)
