-- The entries of a map, in order, are the rows of the keys that it has.
--     ascends-*     lists that do
use Rattle.std.proofs.Common.{◌≡◌, List, [], ◌∷◌, ◌++◌, map, filter_map, Bool, true, false, Option, Some, None, option_map, refl, sym, ap, subst, ◌∙◌, inl, inr}
use Rattle.std.proofs.lemmas.{List.Elements.Contains-append_cases, Map.lookup-none}
use Rattle.std.proofs.lemmas.Map.Entries.{lookup_head, lookup_tail, none_below_head, none_past_head}
use Rattle.std.proofs.lemmas.Map.{Keys.{IsDistinct-from_sorted, sorted_tail}, Lookups.CmpEqualImpliesEq}
use Rattle.std.specs.{BTreeMap.is_at, Cmp.{IsTotalOrder, eq_by_cmp_equiv, tied_itself}, List.cons_option}
use Rattle.std.specs.{List.Sorted.IsStrictlySortedBy, Map.{keys_of, lookup}, Ordering.is_eq, Prelude.{Contains, IsSome}}
use Rattle.std.specs.declared.cmp.Ordering.{Ordering, TheVariants.{Less, Equal, Greater}}
use Rattle.olap_base.proofs.ListLemmas.{Contains-nil, contains_head, filter_map_same}
use Rattle.olap_base.specs.Deciding.{contains_cases, contains_cons}

-- each is below those after it
abbrev pub Ascends : {T : Type 0} → (T → T → Ordering) → List T → Type 0
Ascends R [] = Unit {0}
Ascends {T} R (t ∷ ts) = ((u : T) → Contains ts u → R t u ≡ Less) × Ascends R ts

-- two lists ascend together where each item of the first is below each of the second
pub ascends-append : {T : Type 0} (R : T → T → Ordering) (xs ys : List T) → Ascends R xs → Ascends R ys
    → ((x y : T) → Contains xs x → Contains ys y → R x y ≡ Less) → Ascends R (xs ++ ys)
ascends-append R [] ys a b h = b
ascends-append R (x ∷ xs) ys a b h = (
  λ u c. elim (Contains-append_cases xs ys u c) [
    | inl k ↦ a.0 u k
    | inr k ↦ h x u (contains_head x xs) k
  ],
  ascends-append R xs ys a.1 b (λ y z c d. h y z (contains_cons y xs x c) d),
)

module _ {T K X B : Type 0} (R : K → K → Ordering) (o : IsTotalOrder R) (exact : CmpEqualImpliesEq R) (key : T → K)
    (row : T → X → B) (read : K × X → B) where
  -- what stands at a key
  abbrev pub found : List (K × X) → K → Option X
  found es q = lookup (is_at (R q)) es

  -- the row of an item, if something stands at its key
  abbrev pub row_found : List (K × X) → T → Option B
  row_found es t = option_map (row t) (found es (key t))

  -- each key with something is one of these
  abbrev pub AreKeys : List T → List (K × X) → Type 0
  AreKeys ts es = (q : K) → IsSome (found es q) → (t : T) × Contains ts t × (key t ≡ q)

  -- what is none isn't some
  some_not : {A : Type 0} (p : Option A) → p ≡ None → IsSome p → ⊥
  some_not None e s = cc
  some_not (Some x) e s = cc

  -- a key isn't below itself
  less_not : (p q : K) → p ≡ q → R p q ≡ Less → ⊥
  less_not p q e l =
      let t : R p q ≡ Equal = subst (λ w. R p w ≡ Equal) e (tied_itself o p) in
      absurd (cc)

  -- of no entries there are no rows
  none-found : (ts : List T) → filter_map (row_found []) ts ≡ []
  none-found [] = refl
  none-found (t ∷ ts) = none-found ts

  -- at the first entry's key stands what that entry has
  pub at_head : (q : K) (e : K × X) (es : List (K × X)) → R q e.0 ≡ Equal → found (e ∷ es) q ≡ Some e.1
  at_head q e es h = lookup_head (is_at (R q)) e es (ap is_eq h)

  -- after the first entry nothing stands at its key
  pub past : (q : K) (e : K × X) (es : List (K × X)) → IsStrictlySortedBy R (keys_of (e ∷ es)) → R q e.0 ≡ Equal
      → found es q ≡ None
  past q e es s h = lookup-none (is_at (R q)) es
      (none_past_head (eq_by_cmp_equiv o) q e es (IsDistinct-from_sorted R (keys_of (e ∷ es)) s) (ap is_eq h))

  -- at another key than the first entry's stands what the entries after it have there
  pub not_head : (q : K) (e : K × X) (es : List (K × X)) → is_eq (R q e.0) ≡ false → found (e ∷ es) q ≡ found es q
  not_head q e es h = lookup_tail (is_at (R q)) e es h

  -- at a key below the first entry's stands nothing
  below : (q : K) (e : K × X) (es : List (K × X)) → IsStrictlySortedBy R (keys_of (e ∷ es)) → R q e.0 ≡ Less
      → found (e ∷ es) q ≡ None
  below q e es s h = lookup-none (is_at (R q)) (e ∷ es) (none_below_head o q e es s h)

  -- t isn't it
  later : (ts : List T) (t : T) (q : K) → (key t ≡ q → ⊥) → (u : T) × Contains (t ∷ ts) u × (key u ≡ q)
      → (u : T) × Contains ts u × (key u ≡ q)
  later ts t q n u = elim (contains_cases u.0 t ts u.1) [
    | inl e ↦ absurd (n (ap key e ∙ u.2))
    | inr c ↦ (u.0, c, u.2)
  ]

  -- the first of the keys is the first entry's
  rest_keys : (ts : List T) (t : T) (e : K × X) (es : List (K × X)) → IsStrictlySortedBy R (keys_of (e ∷ es))
      → key t ≡ e.0 → AreKeys (t ∷ ts) (e ∷ es) → AreKeys ts es
  rest_keys ts t e es s h k q w = go (is_eq (R q e.0)) refl
    where
      go : (b : Bool) → is_eq (R q e.0) ≡ b → (u : T) × Contains ts u × (key u ≡ q)
      go true p = absurd (some_not (found es q) (past q e es s (equal (R q e.0) p)) w)
        where
          equal : (r : Ordering) → is_eq r ≡ true → r ≡ Equal
          equal Less p = absurd (cc)
          equal Equal p = refl
          equal Greater p = absurd (cc)
      go false p = later ts t q
          (λ m. some_not (found es q) (past q e es s (subst (λ w. R w e.0 ≡ Equal) (sym h ∙ m) (tied_itself o e.0))) w)
          (k q (subst IsSome (sym (not_head q e es p)) w))

  -- the row of an entry is read off it
  abbrev pub AreRead : List T → Type 0
  AreRead ts = (t : T) → Contains ts t → (x : X) → read (key t, x) ≡ row t x

  -- the entries, in order, are the rows of the items at whose keys something stands
  pub rows_are : (ts : List T) (es : List (K × X)) → AreRead ts → Ascends (λ t u. R (key t) (key u)) ts
      → IsStrictlySortedBy R (keys_of es) → AreKeys ts es → map read es ≡ filter_map (row_found es) ts
  rows_are [] [] f a s k = refl
  rows_are [] (e ∷ es) f a s k =
      let t = k e.0 (subst IsSome (sym (at_head e.0 e es (tied_itself o e.0))) refl) in
      absurd (Contains-nil t.0 t.1)
  rows_are (t ∷ ts) [] f a s k = sym (none-found ts)
  rows_are (t ∷ ts) (e ∷ es) f a s k =
      go (λ fs p q. rows_are ts fs (λ u c x. f u (contains_cons u ts t c) x) a.1 p q) (R (key t) e.0) refl
    where
      head : IsSome (found (e ∷ es) e.0)
      head = subst IsSome (sym (at_head e.0 e es (tied_itself o e.0))) refl

      go : ((fs : List (K × X)) → IsStrictlySortedBy R (keys_of fs) → AreKeys ts fs
          → map read fs ≡ filter_map (row_found fs) ts)
          → (r : Ordering) → R (key t) e.0 ≡ r
          → read e ∷ map read es ≡ cons_option (row_found (e ∷ es) t) (filter_map (row_found (e ∷ es)) ts)
      go rec Equal h =
          let same : key t ≡ e.0 = exact (key t) e.0 h in
          let one : read e ≡ row t e.1 = ap (λ q. read (q, e.1)) (sym same) ∙ f t (contains_head t ts) e.1 in
          let first = at_head (key t) e es h in
          let rest = rec es (sorted_tail R e.0 (keys_of es) s) (rest_keys ts t e es s same k) in
          let others = filter_map_same (row_found es) (row_found (e ∷ es)) ts
          (λ u c. ap (option_map (row u)) (sym (not_head (key u) e es (apart u c same)))) in
          ap (λ b. b ∷ map read es) one ∙ ap (λ bs. row t e.1 ∷ bs) (rest ∙ others)
          ∙ ap (λ p. cons_option (option_map (row t) p) (filter_map (row_found (e ∷ es)) ts)) (sym first)
        where
          apart : (u : T) → Contains ts u → key t ≡ e.0 → is_eq (R (key u) e.0) ≡ false
          apart u c same = by (R (key u) e.0) refl
            where
              by : (r : Ordering) → R (key u) e.0 ≡ r → is_eq r ≡ false
              by Less p = refl
              by Equal p = absurd (less_not (key t) (key u) (same ∙ sym (exact (key u) e.0 p)) (a.0 u c))
              by Greater p = refl
      go rec Less h =
          let none = below (key t) e es s h in
          let keys : AreKeys ts (e ∷ es) = λ q w. later ts t q
          (λ m. some_not (found (e ∷ es) q) (subst (λ p. found (e ∷ es) p ≡ None) m none) w) (k q w) in
          rec (e ∷ es) s keys
          ∙ ap (λ p. cons_option (option_map (row t) p) (filter_map (row_found (e ∷ es)) ts)) (sym none)
      go rec Greater h =
          let u = k e.0 head in
          absurd (elim (contains_cases u.0 t ts u.1) [
            | inl m ↦
                let p : R (key t) e.0 ≡ Equal =
                subst (λ w. R (key t) w ≡ Equal) (ap key m ∙ u.2) (tied_itself o (key t)) in
                cc
            | inr c ↦
                let p : R (key t) e.0 ≡ Less = subst (λ w. R (key t) w ≡ Less) u.2 (a.0 u.0 c) in
                cc
          ])
