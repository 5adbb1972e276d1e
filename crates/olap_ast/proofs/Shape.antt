-- The edges that the members above one member use, and what is needed of steps, lists and names to say which instance
-- stands for them.
use Rattle.std.proofs.Common.{◌≡◌, ℕ, zero, suc, ◌<◌, List, [], ◌∷◌, ◌++◌, length, get_or, Bool, true, false, cond, ◌&&◌, ◌||◌, refl, ap, sym, subst, ◌∙◌, ◌⊎◌, inl, inr, arith, lit<}
use Rattle.std.proofs.lemmas.Bool.{and_from, eqb-true, eq-eqb}
use Rattle.std.proofs.lemmas.List.Elements.{Contains-get_or, Contains-append_cases, filter-append}
use Rattle.std.specs.{List.{range_with_len, list_any}, Prelude.{Contains, ◌==◌, filter, codes}}
use Rattle.olap_base.proofs.AboveLemmas.{reached_once, members_above_is, is_above}
use Rattle.olap_base.proofs.ListLemmas.{contains_head, Contains-nil, Contains-from_filter, Contains-from_range_at, Distinct, Distinct-places, Distinct-from_AllPairs, first_true, second_true, list_any_is}
use Rattle.olap_base.specs.{Above.{members_above, place_in}, Deciding.{below_is_member, contains_cons, contains_cases}}
use Rattle.olap_base.specs.Graph.{Graph, Edge, IsHierarchy, IsCategoryName}
use Rattle.olap_base.specs.Instance.{Instance, IsLawful, IsBelow, category_of, parents_of}
use Rattle.olap_base.specs.Steps.{Steps, Steps.here, Steps.step}
use Rattle.olap_ast.specs.Frozen.{categories_in_order, id_of}

-- ---- tests over a list of any type

-- where the first is, one is
pub left_true : (a b : Bool) → a ≡ true → a || b ≡ true
left_true true b e = refl
left_true false b e = absurd (cc)

-- where the second is, one is
pub right_true : (a b : Bool) → b ≡ true → a || b ≡ true
right_true true b e = refl
right_true false b e = e

-- ---- the edges that are used above x

-- some member above x of the edge's child is below one of its parent
pub seen : Instance → ℕ → Edge → Bool
seen i x e = list_any (λ y. (category_of i y == e.child) && list_any (λ z. category_of i z == e.parent)
    (parents_of i y)) (members_above i x)

-- the two members between which the edge is seen
pub record Seen (i : Instance) (x : ℕ) (e : Edge) : Type 0 where
  pub child : ℕ
  pub parent : ℕ
  pub reached : Steps (IsBelow i) x child
  pub child_is : category_of i child ≡ e.child
  pub below : IsBelow i child parent
  pub parent_is : category_of i parent ≡ e.parent

-- what the test finds is such a pair
pub seen_from : (i : Instance) (x : ℕ) (e : Edge) → seen i x e ≡ true → Seen i x e
unfolding seen
seen_from i x e h =
    let t = (list_any_is (λ y. (category_of i y == e.child) && list_any (λ z. category_of i z == e.parent)
    (parents_of i y)) (members_above i x)).0 h in
    let u = (list_any_is (λ z. category_of i z == e.parent) (parents_of i t.0)).0
    (second_true (category_of i t.0 == e.child)
    (list_any (λ z. category_of i z == e.parent) (parents_of i t.0)) t.2) in
    record {
      child = t.0;
      parent = u.0;
      reached = (members_above_is i x t.0 t.1).1;
      child_is = eqb-true (category_of i t.0) e.child
          (first_true (category_of i t.0 == e.child)
          (list_any (λ z. category_of i z == e.parent) (parents_of i t.0)) t.2);
      below = u.1;
      parent_is = eqb-true (category_of i u.0) e.parent u.2;
    }

-- such a pair is found
pub is_seen : (i : Instance) (x : ℕ) (e : Edge) → Seen i x e → seen i x e ≡ true
unfolding seen
is_seen i x e s =
    (list_any_is (λ y. (category_of i y == e.child) && list_any (λ z. category_of i z == e.parent) (parents_of i y))
    (members_above i x)).1 (
      s.child,
      is_above i x s.child (below_is_member i s.child s.parent s.below) s.reached,
      and_from (category_of i s.child == e.child)
          (list_any (λ z. category_of i z == e.parent) (parents_of i s.child))
          (eq-eqb (category_of i s.child) e.child s.child_is)
          ((list_any_is (λ z. category_of i z == e.parent) (parents_of i s.child)).1 (
            s.parent,
            s.below,
            eq-eqb (category_of i s.parent) e.parent s.parent_is,
          )),
    )

-- the edges of the graph that are used above x
abbrev pub seen_edges : Graph → Instance → ℕ → List Edge
seen_edges g i x = filter (seen i x) g.edges

-- the first member of the category in a list
abbrev first_in : Instance → ℕ → List ℕ → ℕ
first_in i c [] = 0
first_in i c (y ∷ ys) = cond (category_of i y == c) y (first_in i c ys)

-- where the list has a member of the category, the first one is such a member
first_in_is : (i : Instance) (c : ℕ) (ys : List ℕ) (y : ℕ) → Contains ys y → category_of i y ≡ c →
    Contains ys (first_in i c ys) × (category_of i (first_in i c ys) ≡ c)
first_in_is i c [] y d e = absurd (Contains-nil y d)
first_in_is i c (z ∷ zs) y d e = go (category_of i z == c) refl (λ h. first_in_is i c zs y h e)
    (contains_cases y z zs d)
  where
    go : (b : Bool) → (category_of i z == c) ≡ b →
        (Contains zs y → Contains zs (first_in i c zs) × (category_of i (first_in i c zs) ≡ c)) →
        (z ≡ y) ⊎ Contains zs y
        → Contains (z ∷ zs) (cond b z (first_in i c zs)) × (category_of i (cond b z (first_in i c zs)) ≡ c)
    go true t rest s = (contains_head z zs, eqb-true (category_of i z) c t)
    go false t rest (inl q) = absurd (let a : true
        ≡ false = sym (eq-eqb (category_of i z) c (ap (category_of i) q ∙ e)) ∙ t in cc)
    go false t rest (inr h) = let r = rest h in (contains_cons (first_in i c zs) zs z r.0, r.1)

-- the member of the category above x
pub member_above : Instance → ℕ → ℕ → ℕ
member_above i x c = first_in i c (members_above i x)

-- each member above x is the one of its category
pub member_above_is : (g : Graph) (i : Instance) → IsLawful g i → (x y : ℕ) → y < length i → Steps (IsBelow i) x y →
    member_above i x (category_of i y) ≡ y
unfolding member_above
member_above_is g i w x y h s =
    let t = first_in_is i (category_of i y) (members_above i x) y (is_above i x y h s) refl in
    reached_once g i w x (first_in i (category_of i y) (members_above i x)) y
    (members_above_is i x (first_in i (category_of i y) (members_above i x)) t.0).1 s t.1

-- ---- steps, lists and the names of categories

-- steps end in a last one, if there are any
pub last_step : {R : ℕ → ℕ → Type 0} {x y : ℕ} → Steps R x y → (x ≡ y) ⊎ ((z : ℕ) × Steps R x z × R z y)
last_step here = inl refl
last_step {R} (step {x = x} {y = z} {z = y} r s) = elim (last_step s) [
  | inl q ↦ inr (x, here, subst (λ u. R x u) q r)
  | inr t ↦ inr (t.0, step r t.1, t.2)
]

-- a list without repeats stays so with one more that isn't in it
pub Distinct-push : {A : Type 0} (xs : List A) (y : A) → Distinct xs → (Contains xs y → ⊥) → Distinct (xs ++ y ∷ [])
Distinct-push [] y d n = (Contains-nil y, tt)
Distinct-push (x ∷ xs) y d n = (
  λ c. elim (Contains-append_cases xs (y ∷ []) x c) [
    | inl h ↦ d.0 h
    | inr h ↦ elim (contains_cases x y [] h) [
      | inl q ↦ n
          (subst (λ u. Contains (x ∷ xs) u) (sym q) (contains_head x xs))
      | inr k ↦ Contains-nil x k
    ]
  ],
  Distinct-push xs y d.1 (λ c. n (contains_cons y xs x c)),
)

-- a declared category's place among the names
pub declared : (g : Graph) (c : ℕ) → Contains (categories_in_order g) (suc c) → c < length g.names
declared g c a = elim (Contains-append_cases (range_with_len 1 (length g.names)) (0 ∷ []) (suc c) a) [
  | inl h ↦ let t = Contains-from_range_at 1 (length g.names) (suc c) h in omega (arith, t.1)
  | inr h ↦ elim (contains_cases (suc c) 0 [] h) [
    | inl q ↦ absurd (omega arith)
    | inr k ↦ absurd (Contains-nil (suc c) k)
  ]
]

-- no declared category is called `all`
not_all : (g : Graph) → IsHierarchy g → (c : ℕ) → Contains (categories_in_order g) (suc c) →
    get_or g.names c [] ≡ codes "all" → ⊥
not_all g hier c a q = is_reserved (get_or g.names c []) q
    (hier.names (get_or g.names c []) (Contains-get_or g.names c [] (declared g c a))).0
  where
    is_reserved : (name : List ℕ) → name ≡ codes "all" → IsCategoryName name → ⊥
    is_reserved [] q n = n
    is_reserved (b ∷ rest) q n = n.2 (3, lit< tt, sym q)

-- edges with the same ends are one
pub same_edge : (e f : Edge) → e.child ≡ f.child → e.parent ≡ f.parent → e ≡ f
same_edge e f p q = λ z. record { child = p z; parent = q z }

-- two categories of the graph with one id are one
pub same_id : (g : Graph) → IsHierarchy g → (c d : ℕ) → Contains (categories_in_order g) c →
    Contains (categories_in_order g) d → id_of g c ≡ id_of g d → c ≡ d
same_id g hier zero zero a b q = refl
same_id g hier zero (suc d) a b q = absurd (not_all g hier d b (sym q))
same_id g hier (suc c) zero a b q = absurd (not_all g hier c a q)
same_id g hier (suc c) (suc d) a b q = ap suc
    (Distinct-places g.names (Distinct-from_AllPairs g.names hier.names_differ) c d [] (declared g c a)
    (declared g d b) q)

-- the last place of a filtered list whose last element passes, and stands nowhere else
place_at_end : (xs : List ℕ) (y : ℕ) → (Contains xs y → ⊥) → suc (place_in (xs ++ y ∷ []) y) ≡ length (xs ++ y ∷ [])
place_at_end [] y n = ap suc (here' (y == y) (eq-eqb y y refl))
  where
    here' : (b : Bool) → b ≡ true → cond b 0 (suc 0) ≡ 0
    here' true e = refl
    here' false e = absurd (cc)
place_at_end (x ∷ xs) y n = go (x == y) (λ e. n
    (subst (λ u. Contains (x ∷ xs) u) (eqb-true x y e) (contains_head x xs)))
    (place_at_end xs y (λ c. n (contains_cons y xs x c)))
  where
    go : (b : Bool) → (b ≡ true → ⊥) → suc (place_in (xs ++ y ∷ []) y) ≡ length (xs ++ y ∷ []) →
        suc (cond b 0 (suc (place_in (xs ++ y ∷ []) y))) ≡ suc (length (xs ++ y ∷ []))
    go true f q = absurd (f refl)
    go false f q = ap suc q

-- the last place, where the list is filtered
pub last_in : (p : ℕ → Bool) (xs : List ℕ) (y : ℕ) → (Contains xs y → ⊥) → p y ≡ true →
    suc (place_in (filter p (xs ++ y ∷ [])) y) ≡ length (filter p (xs ++ y ∷ []))
last_in p xs y n e = rw (filter-append p xs (y ∷ []) ∙ ap (λ l. filter p xs ++ l) (one (p y) e))
    (place_at_end (filter p xs) y (λ c. n (Contains-from_filter p xs y c).0))
  where
    one : (b : Bool) → b ≡ true → cond b (y ∷ []) [] ≡ y ∷ []
    one true e = refl
    one false e = absurd (cc)
