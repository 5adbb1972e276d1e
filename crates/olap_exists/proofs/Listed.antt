-- All lists of numbers, and all frozen dimensions, with a property that can be decided, in order.
use Rattle.std.proofs.Common.{◌≡◌, ℕ, zero, suc, ◌+◌, ◌<◌, ◌≤◌, List, [], ◌∷◌, ◌++◌, map, get_or, refl, sym, subst, inl, inr, arith}
use Rattle.std.{proofs.lemmas.List.Elements.Contains-get_or, specs.Prelude.{◌⊎◌, ◌≢◌, AllPairs, Contains}}
use Rattle.olap_base.proofs.GeneralLemmas.{equal_or_less}
use Rattle.olap_base.proofs.ListLemmas.{Contains-from_map, Contains-map, Contains-nil, contains_head}
use Rattle.olap_base.specs.{Deciding.{contains_cases, contains_cons}, Ranks.IsNotAfter}
use Rattle.olap_ast.proofs.Least.{Fits}

-- each element is before each later one
abbrev pub Ordered : {X : Type 0} → (X → X → Type 0) → List X → Type 0
Ordered R [] = Unit {0}
Ordered R (x ∷ xs) = ((y : _) → Contains xs y → R x y) × Ordered R xs

-- so it is by places
pub all_pairs : {X : Type 0} (R : X → X → Type 0) (xs : List X) → Ordered R xs → AllPairs R xs
all_pairs R [] o i j d l h = absurd (omega arith)
all_pairs R (x ∷ xs) o zero zero d l h = absurd (omega arith)
all_pairs R (x ∷ xs) o zero (suc j) d l h = o.0 (get_or xs j d) (Contains-get_or xs j d (omega arith))
all_pairs R (x ∷ xs) o (suc i) zero d l h = absurd (omega arith)
all_pairs R (x ∷ xs) o (suc i) (suc j) d l h = all_pairs R xs o.1 i j d (omega arith) (omega arith)

-- exactly the things with the property, in the order
pub record AreListed {X : Type 0} (R : X → X → Type 0) (P : X → Type 0) (all : List X) : Type 0 where
  pub ordered : Ordered R all
  pub sound : (x : X) → Contains all x → P x
  pub complete : (x : X) → P x → Contains all x

-- ---- two lists, one after the other

-- what is in two lists joined is in one of them
pub from_either : {X : Type 0} (xs ys : List X) (z : X) → Contains (xs ++ ys) z → Contains xs z ⊎ Contains ys z
from_either [] ys z c = inr c
from_either (x ∷ xs) ys z c = elim (contains_cases z x (xs ++ ys) c) [
  | inl e ↦ inl (subst (λ w. Contains (x ∷ xs) w) e (contains_head x xs))
  | inr h ↦ elim (from_either xs ys z h) [ inl a ↦ inl (contains_cons z xs x a) | inr b ↦ inr b ]
]

-- what is in the first list is in both joined
pub in_left : {X : Type 0} (xs ys : List X) (z : X) → Contains xs z → Contains (xs ++ ys) z
in_left [] ys z c = absurd (Contains-nil z c)
in_left (x ∷ xs) ys z c = elim (contains_cases z x xs c) [
  | inl e ↦ subst (λ w. Contains (x ∷ (xs ++ ys)) w) e (contains_head x (xs ++ ys))
  | inr h ↦ contains_cons z (xs ++ ys) x (in_left xs ys z h)
]

-- what is in the second list is in both joined
pub in_right : {X : Type 0} (xs ys : List X) (z : X) → Contains ys z → Contains (xs ++ ys) z
in_right [] ys z c = c
in_right (x ∷ xs) ys z c = contains_cons z (xs ++ ys) x (in_right xs ys z c)

-- two ordered lists joined are ordered, if each element of the first comes before each of the second
ordered_both : {X : Type 0} (R : X → X → Type 0) (xs ys : List X) → Ordered R xs → Ordered R ys
    → ((x y : X) → Contains xs x → Contains ys y → R x y) → Ordered R (xs ++ ys)
ordered_both R [] ys a b f = b
ordered_both R (x ∷ xs) ys a b f = (
  λ z c. elim (from_either xs ys z c) [ inl h ↦ a.0 z h | inr h ↦ f x z (contains_head x xs) h ],
  ordered_both R xs ys a.1 b (λ u v c d. f u v (contains_cons u xs x c) d),
)

-- the images, where the images of two are in the order that they are in
pub ordered_map : {X Y : Type 0} (R : X → X → Type 0) (S : Y → Y → Type 0) (f : X → Y) (xs : List X)
    → ((x y : X) → Contains xs x → Contains xs y → R x y → S (f x) (f y)) → Ordered R xs → Ordered S (map f xs)
ordered_map R S f [] h o = tt
ordered_map R S f (x ∷ xs) h o = (
  λ z c. let t = Contains-from_map f xs z c in
      subst (λ w. S (f x) w) t.2 (h x t.0 (contains_head x xs) (contains_cons t.0 xs x t.1) (o.0 t.0 t.1)),
  ordered_map R S f xs (λ u v c d. h u v (contains_cons u xs x c) (contains_cons v xs x d)) o.1,
)

-- ---- lists of numbers

-- the first list comes before the second
abbrev pub IsAhead : List ℕ → List ℕ → Type 0
IsAhead xs ys = IsNotAfter xs ys × (xs ≢ ys)

-- the lists of numbers with a property are listed in their order
abbrev pub AllLists : (List ℕ → Type 0) → Type 0
AllLists P = (all : List (List ℕ)) × AreListed IsAhead P all

-- a list with the property whose first number is one of c from j on
abbrev Within : (List ℕ → Type 0) → ℕ → ℕ → List ℕ → Type 0
Within P j c [] = ⊥
Within P j c (x ∷ xs) = (j ≤ x) × (x < j + c) × P (x ∷ xs)

-- after one first number
behind_head : (j : ℕ) (xs ys : List ℕ) → IsAhead xs ys → IsAhead (j ∷ xs) (j ∷ ys)
behind_head j xs ys a = (inr (refl, a.0), λ e. a.1 (let q : xs ≡ ys = cc in q))

-- a number from j on is j, or is from j + 1 on
-- if the rests of the lists are listed for each first number, so are the lists with one of c first numbers
by_heads : (P : List ℕ → Type 0) → ((x : ℕ) → AllLists (λ xs. P (x ∷ xs))) → (c j : ℕ) → AllLists (Within P j c)
by_heads P r zero j = (
  [],
  record {
    ordered = tt;
    sound = λ x c. absurd (Contains-nil x c);
    complete = none;
  },
)
  where
    none : (x : List ℕ) → Within P j 0 x → Contains [] x
    none [] w = absurd w
    none (x ∷ xs) w = let a = w.0 in let b = w.1 in absurd (omega arith)
by_heads P r (suc c) j = go (r j) (by_heads P r c (suc j))
  where
    go : AllLists (λ xs. P (j ∷ xs)) → AllLists (Within P (suc j) c) → AllLists (Within P j (suc c))
    go a b = (
      map (λ xs. j ∷ xs) a.0 ++ b.0,
      record {
        ordered = ordered_both IsAhead (map (λ xs. j ∷ xs) a.0) b.0
            (ordered_map IsAhead IsAhead (λ xs. j ∷ xs) a.0 (λ x y u v h. behind_head j x y h) a.1.ordered) b.1.ordered
            across;
        sound = sound;
        complete = complete;
      },
    )
      where
        across_at : (x y : List ℕ) → Contains (map (λ xs. j ∷ xs) a.0) x → Within P (suc j) c y → IsAhead x y
        across_at x [] u w = absurd w
        across_at x (z ∷ zs) u w =
            let t = Contains-from_map (λ xs. j ∷ xs) a.0 x u in
            let l : j < z = (let h = w.0 in omega arith) in
            subst (λ x. IsAhead x (z ∷ zs)) t.2 (inl l, λ e. let q : j ≡ z = cc in absurd (omega arith))

        across : (x y : List ℕ) → Contains (map (λ xs. j ∷ xs) a.0) x → Contains b.0 y → IsAhead x y
        across x y u v = across_at x y u (b.1.sound y v)

        wider : (x : List ℕ) → Within P (suc j) c x → Within P j (suc c) x
        wider [] w = w
        wider (x ∷ xs) w = ((let h = w.0 in omega arith), (let h = w.1 in omega arith), w.2)

        sound : (x : List ℕ) → Contains (map (λ xs. j ∷ xs) a.0 ++ b.0) x → Within P j (suc c) x
        sound x u = elim (from_either (map (λ xs. j ∷ xs) a.0) b.0 x u) [
          | inl h ↦
              let t = Contains-from_map (λ xs. j ∷ xs) a.0 x h in
              subst (λ y. Within P j (suc c) y) t.2 (omega arith, omega arith, a.1.sound t.0 t.1)
          | inr h ↦ wider x (b.1.sound x h)
        ]

        complete : (x : List ℕ) → Within P j (suc c) x → Contains (map (λ xs. j ∷ xs) a.0 ++ b.0) x
        complete [] w = absurd w
        complete (x ∷ xs) w = elim (equal_or_less j x w.0) [
          | inl e ↦ in_left (map (λ ys. j ∷ ys) a.0) b.0 (x ∷ xs)
              (subst (λ y. Contains (map (λ ys. j ∷ ys) a.0) (y ∷ xs)) e
              (Contains-map (λ ys. j ∷ ys) a.0 xs (a.1.complete xs (subst (λ y. P (y ∷ xs)) (sym e) w.2))))
          | inr h ↦ in_right (map (λ ys. j ∷ ys) a.0) b.0 (x ∷ xs)
              (b.1.complete (x ∷ xs) (h, (let l = w.1 in omega arith), w.2))
        ]

-- all lists of m numbers below n with a property
pub all_lists : (m n : ℕ) (P : List ℕ → Type 0) → ((xs : List ℕ) → Dec (P xs))
    → ((xs : List ℕ) → P xs → Fits m n xs) → AllLists P
all_lists zero n P d f = elim (d []) [
  | yes p ↦ (
    [] ∷ [],
    record {
      ordered = (λ y c. absurd (Contains-nil y c), tt);
      sound = λ x c. elim (contains_cases x [] [] c) [ inl e ↦ subst P e p | inr h ↦ absurd (Contains-nil x h) ];
      complete = one;
    },
  )
  | no m ↦ (
    [],
    record {
      ordered = tt;
      sound = λ x c. absurd (Contains-nil x c);
      complete = none m;
    },
  )
]
  where
    one : (x : List ℕ) → P x → Contains ([] ∷ []) x
    one [] q = contains_head [] []
    one (y ∷ ys) q = absurd (f (y ∷ ys) q)

    none : (P [] → ⊥) → (x : List ℕ) → P x → Contains [] x
    none m [] q = absurd (m q)
    none m (y ∷ ys) q = absurd (f (y ∷ ys) q)
all_lists (suc m) n P d f =
    let t = by_heads P (λ x. all_lists m n (λ xs. P (x ∷ xs)) (λ xs. d (x ∷ xs)) (λ xs p. (f (x ∷ xs) p).1)) n 0 in (
      t.0,
      record {
        ordered = t.1.ordered;
        sound = λ x c. from x (t.1.sound x c);
        complete = λ x p. t.1.complete x (to x p);
      },
    )
  where
    from : (x : List ℕ) → Within P 0 n x → P x
    from [] w = absurd w
    from (x ∷ xs) w = w.2

    to : (x : List ℕ) → P x → Within P 0 n x
    to [] p = f [] p
    to (x ∷ xs) p = (omega arith, (let h = (f (x ∷ xs) p).0 in omega arith), p)
