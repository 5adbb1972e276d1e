-- Tuples of members: what is so of members is so of tuples, place by place.
use Rattle.std.proofs.Common.{◌≡◌, ℕ, ◌↔◌, List, [], ◌∷◌, ◌++◌, map, true, refl, sym, ap, subst, ◌∙◌, inl, inr, arith}
use Rattle.std.proofs.lemmas.{Bool.and_from, List.Elements.Contains-append_cases}
use Rattle.std.specs.Prelude.{Contains, flat_map, IsTrue}
use Rattle.olap_base.proofs.ListLemmas.{Contains-nil, Contains-map, Contains-from_map, Distinct, Distinct-map, first_true, second_true, Contains-flat_map}
use Rattle.olap_base.proofs.ViewLemmas.{members_of_is, is_member_of, Distinct-members_of, members_once, members_onward}
use Rattle.olap_base.specs.{Deciding.{contains_cons, contains_cases}, Graph.Graph, Instance.Instance}
use Rattle.olap_base.specs.{Reaching.{reaches, reaches_is}, Views.members_of}
use Rattle.olap_cube.specs.Tuples.{TupleReaches, tuple_reaches, IsTupleOf, AreLawful, tuples_of}

-- ---- reaching

-- the test says whether a tuple reaches another
pub tuple_reaches_is : (is : List Instance) (xs ys : List ℕ) → IsTrue (tuple_reaches is xs ys) ↔ TupleReaches is xs ys
tuple_reaches_is [] [] [] = (λ e. tt, λ t. refl)
tuple_reaches_is [] [] (y ∷ ys) = (λ e. absurd (cc), λ t. absurd t)
tuple_reaches_is [] (x ∷ xs) ys = (λ e. absurd (cc), λ t. absurd t)
tuple_reaches_is (i ∷ is) [] ys = (λ e. absurd (cc), λ t. absurd t)
tuple_reaches_is (i ∷ is) (x ∷ xs) [] = (λ e. absurd (cc), λ t. absurd t)
tuple_reaches_is (i ∷ is) (x ∷ xs) (y ∷ ys) = let r = tuple_reaches_is is xs ys in (
  λ e. (
    (reaches_is i x y).0 (first_true (reaches i x y) (tuple_reaches is xs ys) e),
    r.0 (second_true (reaches i x y) (tuple_reaches is xs ys) e),
  ),
  λ t. and_from (reaches i x y) (tuple_reaches is xs ys) ((reaches_is i x y).1 t.0) (r.1 t.1),
)

-- what a tuple reaches reaches on
pub tuple_onward : (is : List Instance) (xs ys zs : List ℕ) → tuple_reaches is xs ys ≡ true
    → tuple_reaches is ys zs ≡ true → tuple_reaches is xs zs ≡ true
tuple_onward [] [] [] [] e f = refl
tuple_onward [] [] [] (z ∷ zs) e f = absurd (cc)
tuple_onward [] [] (y ∷ ys) zs e f = absurd (cc)
tuple_onward [] (x ∷ xs) ys zs e f = absurd (cc)
tuple_onward (i ∷ is) [] ys zs e f = absurd (cc)
tuple_onward (i ∷ is) (x ∷ xs) [] zs e f = absurd (cc)
tuple_onward (i ∷ is) (x ∷ xs) (y ∷ ys) [] e f = absurd (cc)
tuple_onward (i ∷ is) (x ∷ xs) (y ∷ ys) (z ∷ zs) e f =
    and_from (reaches i x z) (tuple_reaches is xs zs)
    (members_onward i x y z (first_true (reaches i x y) (tuple_reaches is xs ys) e)
    (first_true (reaches i y z) (tuple_reaches is ys zs) f))
    (tuple_onward is xs ys zs (second_true (reaches i x y) (tuple_reaches is xs ys) e)
    (second_true (reaches i y z) (tuple_reaches is ys zs) f))

-- ---- the tuples of some categories

-- what is in all together is in one of the lists
Contains-from_flat_map : {A B : Type 0} (f : A → List B) (xs : List A) (y : B) → Contains (flat_map f xs) y
    → (x : A) × Contains xs x × Contains (f x) y
Contains-from_flat_map f [] y c = absurd (Contains-nil y c)
Contains-from_flat_map f (z ∷ zs) y c = elim (Contains-append_cases (f z) (flat_map f zs) y c) [
  | inl h ↦ (z, (0, omega arith, refl), h)
  | inr h ↦ let t = Contains-from_flat_map f zs y h in (t.0, contains_cons t.0 zs z t.1, t.2)
]

-- each tuple of the list has members of these categories
pub tuples_of_is : (is : List Instance) (cs ys : List ℕ) → Contains (tuples_of is cs) ys → IsTupleOf is cs ys
tuples_of_is [] [] ys h = elim (contains_cases ys [] [] h) [
  | inl e ↦ subst (λ w. IsTupleOf [] [] w) e tt
  | inr n ↦ absurd (Contains-nil ys n)
]
tuples_of_is [] (c ∷ cs) ys h = absurd (Contains-nil ys h)
tuples_of_is (i ∷ is) [] ys h = absurd (Contains-nil ys h)
tuples_of_is (i ∷ is) (c ∷ cs) ys h =
    let t = Contains-from_flat_map (λ y. map (λ zs. y ∷ zs) (tuples_of is cs)) (members_of i c) ys h in
    let u = Contains-from_map (λ zs. t.0 ∷ zs) (tuples_of is cs) ys t.2 in
    subst (λ w. IsTupleOf (i ∷ is) (c ∷ cs) w) u.2 (members_of_is i c t.0 t.1, tuples_of_is is cs u.0 u.1)

-- each such tuple is in the list
pub is_tuple_of : (is : List Instance) (cs ys : List ℕ) → IsTupleOf is cs ys → Contains (tuples_of is cs) ys
is_tuple_of [] [] [] t = (0, omega arith, refl)
is_tuple_of [] [] (y ∷ ys) t = absurd t
is_tuple_of [] (c ∷ cs) ys t = absurd t
is_tuple_of (i ∷ is) [] ys t = absurd t
is_tuple_of (i ∷ is) (c ∷ cs) [] t = absurd t
is_tuple_of (i ∷ is) (c ∷ cs) (y ∷ ys) t =
    Contains-flat_map (λ z. map (λ zs. z ∷ zs) (tuples_of is cs)) (members_of i c) y (y ∷ ys)
    (is_member_of i c y t.0) (Contains-map (λ zs. y ∷ zs) (tuples_of is cs) ys (is_tuple_of is cs ys t.1))

-- two lists that share nothing are distinct together
Distinct-append : {A : Type 0} (xs ys : List A) → Distinct xs → Distinct ys
    → ((x : A) → Contains xs x → Contains ys x → ⊥) → Distinct (xs ++ ys)
Distinct-append [] ys d e h = e
Distinct-append (x ∷ xs) ys d e h = (
  λ c. elim (Contains-append_cases xs ys x c) [
    | inl a ↦ d.0 a
    | inr a ↦ h x (0, omega arith, refl) a
  ],
  Distinct-append xs ys d.1 e (λ z a b. h z (contains_cons z xs x a) b),
)

-- so are many
Distinct-flat_map : {A B : Type 0} (f : A → List B) (xs : List A) → Distinct xs → ((x : A) → Distinct (f x))
    → ((x y : A) (z : B) → Contains (f x) z → Contains (f y) z → x ≡ y) → Distinct (flat_map f xs)
Distinct-flat_map f [] d e h = tt
Distinct-flat_map f (x ∷ xs) d e h =
    Distinct-append (f x) (flat_map f xs) (e x) (Distinct-flat_map f xs d.1 e h)
    (λ z a b. let t = Contains-from_flat_map f xs z b in
    d.0 (subst (λ w. Contains xs w) (sym (h x t.0 z a t.2)) t.1))

-- the first number of a list, or 0
head_of : List ℕ → ℕ
head_of [] = 0
head_of (x ∷ xs) = x

-- the numbers after the first
tail_of : List ℕ → List ℕ
tail_of [] = []
tail_of (x ∷ xs) = xs

-- no tuple stands twice
pub Distinct-tuples_of : (is : List Instance) (cs : List ℕ) → Distinct (tuples_of is cs)
unfolding head_of tail_of
Distinct-tuples_of [] [] = (λ c. Contains-nil [] c, tt)
Distinct-tuples_of [] (c ∷ cs) = tt
Distinct-tuples_of (i ∷ is) [] = tt
Distinct-tuples_of (i ∷ is) (c ∷ cs) =
    Distinct-flat_map (λ y. map (λ ys. y ∷ ys) (tuples_of is cs)) (members_of i c) (Distinct-members_of i c)
    (λ y. Distinct-map (λ ys. y ∷ ys) (tuples_of is cs) (Distinct-tuples_of is cs) (λ a b k l e. ap tail_of e))
    (λ y z w a b.
    let t = Contains-from_map (λ ys. y ∷ ys) (tuples_of is cs) w a in
    let u = Contains-from_map (λ ys. z ∷ ys) (tuples_of is cs) w b in
    ap head_of (t.2 ∙ sym u.2))

-- ---- of some categories at most one tuple is reached

-- on lawful instances a tuple reaches one tuple of the categories at most
pub tuple_once : (gs : List Graph) (is : List Instance) (cs xs ys zs : List ℕ) → AreLawful gs is
    → IsTupleOf is cs ys → IsTupleOf is cs zs → tuple_reaches is xs ys ≡ true → tuple_reaches is xs zs ≡ true → ys ≡ zs
tuple_once [] [] [] xs [] [] w m n e f = refl
tuple_once [] [] [] xs [] (z ∷ zs) w m n e f = absurd n
tuple_once [] [] [] xs (y ∷ ys) zs w m n e f = absurd m
tuple_once [] [] (c ∷ cs) xs ys zs w m n e f = absurd m
tuple_once [] (i ∷ is) cs xs ys zs w m n e f = absurd w
tuple_once (g ∷ gs) [] cs xs ys zs w m n e f = absurd w
tuple_once (g ∷ gs) (i ∷ is) [] xs ys zs w m n e f = absurd m
tuple_once (g ∷ gs) (i ∷ is) (c ∷ cs) [] ys zs w m n e f = absurd (cc)
tuple_once (g ∷ gs) (i ∷ is) (c ∷ cs) (x ∷ xs) [] zs w m n e f = absurd m
tuple_once (g ∷ gs) (i ∷ is) (c ∷ cs) (x ∷ xs) (y ∷ ys) [] w m n e f = absurd n
tuple_once (g ∷ gs) (i ∷ is) (c ∷ cs) (x ∷ xs) (y ∷ ys) (z ∷ zs) w m n e f =
    let a = members_once g i w.0 c x y z (is_member_of i c y m.0) (is_member_of i c z n.0)
    (first_true (reaches i x y) (tuple_reaches is xs ys) e)
    (first_true (reaches i x z) (tuple_reaches is xs zs) f) in
    let b = tuple_once gs is cs xs ys zs w.1 m.1 n.1 (second_true (reaches i x y) (tuple_reaches is xs ys) e)
    (second_true (reaches i x z) (tuple_reaches is xs zs) f) in
    λ k. a k ∷ b k
