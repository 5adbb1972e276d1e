-- Rows at members of a category, in file order.
--     each-in-order they stand so
use Rattle.std.proofs.Common.{◌≡◌, ◌≢◌, ◌+◌, ◌<◌, ◌≤◌, ◌==◌, ◌∷◌, ◌∙◌, [], ℕ, zero, suc, Bool, true, false, cond, List, length, get_or, map, filter, filter_map, Option, Some, None, IfSome, option_map, refl, sym, ap, subst, inl, inr, arith}
use Rattle.std.proofs.lemmas.{Bool.Decides.{Decides-eqb, eqb_tells, nat_tests}, List.{get_or-map, length-map}}
use Rattle.std.proofs.lemmas.List.Elements.{All-cons, All-contains, All-map, All-nil, Contains-get_or}
use Rattle.std.{proofs.lemmas.List.Kept.{AllPairs-cons, AllPairs-filter}, specs.List.{cons_option, range_with_len}}
use Rattle.std.specs.Prelude.{All, AllPairs, Contains}
use Rattle.olap_base.proofs.ListLemmas.{Contains-from_filter, Contains-from_range_at, contains_head, filter_map_same}
use Rattle.olap_base.{proofs.ViewLemmas.members_of_is, specs.Deciding.contains_cons}
use Rattle.olap_base.specs.{Instance.{Instance, IsMemberOf, category_of}, Limits.most_views, Summaries.Summary}
use Rattle.olap_base.specs.Views.{Row, View, members_of, row_at}
use Rattle.olap_view.specs.Stores.{IsInFileOrder, IsStore, row_in, summary_in}
pub use Rattle.olap_view.specs.Tables.{view_by}

-- the rows of these members, if there are any
abbrev pub rows_by : (ℕ → Option Summary) → List ℕ → List (Row ℕ)
rows_by h ys = filter_map (λ y. row_at y (h y)) ys

-- each row of a list that is made by member has what each summary's row has
pub all-rows : (P : Row ℕ → Type 0) (h : ℕ → Option Summary) (ys : List ℕ)
    → ((y : ℕ) → Contains ys y → IfSome (row_at y (h y)) P) → All P (rows_by h ys)
all-rows P h [] f = All-nil P
all-rows P h (y ∷ ys) f = cons (row_at y (h y)) (f y (contains_head y ys))
    (all-rows P h ys (λ z c. f z (contains_cons z ys y c)))
  where
    cons : (o : Option (Row ℕ)) → IfSome o P → All P (rows_by h ys) → All P (cons_option o (rows_by h ys))
    cons None t a = a
    cons (Some r) t a = All-cons P r (rows_by h ys) t a

-- ---- rows of a function of members

-- numbers in a row ascend
range-ascends : (a n : ℕ) → AllPairs ◌<◌ (range_with_len a n)
range-ascends a zero = λ j k d l w. absurd (omega arith)
range-ascends a (suc n) = AllPairs-cons ◌<◌ a (range_with_len (a + 1) n) above (range-ascends (a + 1) n)
  where
    above : All (λ z. a < z) (range_with_len (a + 1) n)
    above k d l =
        let z = get_or (range_with_len (a + 1) n) k d in
        let h = Contains-from_range_at (a + 1) n z (Contains-get_or (range_with_len (a + 1) n) k d l) in
        omega (arith, h.0)

-- so do the members of a category
members-ascend : (i : Instance) (c : ℕ) → AllPairs ◌<◌ (members_of i c)
members-ascend i c =
    AllPairs-filter ◌<◌ (λ y. category_of i y == c) (range_with_len 0 (length i)) (range-ascends 0 (length i))

-- so do the members of rows that are made by member
rows-ascend : (h : ℕ → Option Summary) (ys : List ℕ) → AllPairs ◌<◌ ys
    → AllPairs ◌<◌ (map (λ r. r.at) (rows_by h ys))
rows-ascend h [] a = λ j k d l w. absurd (omega arith)
rows-ascend h (y ∷ ys) a = go (h y) (rows-ascend h ys (λ j k d l w. a (suc j) (suc k) d (omega arith) (omega arith)))
  where
    above : All (λ z. y < z) ys
    above k d l = a 0 (suc k) d (omega arith) (omega arith)

    later : (z : ℕ) (o : Option Summary) → y < z → IfSome (row_at z o) (λ (r : Row ℕ). y < r.at)
    later z None l = tt
    later z (Some s) l = l

    go : (o : Option Summary) → AllPairs ◌<◌ (map (λ (r : Row ℕ). r.at) (rows_by h ys))
        → AllPairs ◌<◌ (map (λ (r : Row ℕ). r.at) (cons_option (row_at y o) (rows_by h ys)))
    go None e = e
    go (Some s) e =
        AllPairs-cons ◌<◌ y (map (λ (r : Row ℕ). r.at) (rows_by h ys))
        (All-map (λ z. y < z) (λ (r : Row ℕ). r.at) (rows_by h ys)
        (all-rows (λ (r : Row ℕ). y < r.at) h ys (λ z k. later z (h z) (All-contains (λ w. y < w) ys z above k)))) e

-- a view that is made by member stands in file order
in-order : (i : Instance) (h : ℕ → Option Summary) (c : ℕ) → IsInFileOrder i (view_by i h c)
in-order i h c = record {
  members = all-rows (λ (r : Row ℕ). IsMemberOf i c r.at) h (members_of i c)
      (λ y k. inside y (h y) (members_of_is i c y k));
  ascend = rows-ascend h (members_of i c) (members-ascend i c);
}
  where
    inside : (y : ℕ) (o : Option Summary) → IsMemberOf i c y
        → IfSome (row_at y o) (λ (r : Row ℕ). IsMemberOf i c r.at)
    inside y None m = tt
    inside y (Some s) m = m

-- so does each of several
pub each-in-order : (i : Instance) (h : ℕ → Option Summary) (cs : List ℕ)
    → All (IsInFileOrder i) (map (view_by i h) cs)
each-in-order i h cs = All-map (IsInFileOrder i) (view_by i h) cs (λ k d l. in-order i h (get_or cs k d))

-- their categories are those that were given
categories-back : (i : Instance) (h : ℕ → Option Summary) (cs : List ℕ)
    → map (λ v. v.target) (map (view_by i h) cs) ≡ cs
categories-back i h [] = refl
categories-back i h (c ∷ cs) = ap (λ l. c ∷ l) (categories-back i h cs)

-- a store may hold such views of few different categories
pub store-of : (i : Instance) (h : ℕ → Option Summary) (cs : List ℕ) → length cs ≤ most_views → AllPairs ◌≢◌ cs
    → IsStore (map (view_by i h) cs)
store-of i h cs few differ = record {
  few = let n = length-map cs (view_by i h) in omega arith;
  categories = subst (AllPairs ◌≢◌) (sym (categories-back i h cs)) differ;
  members = All-map (λ (v : View ℕ ℕ). AllPairs ◌≢◌ (map (λ (r : Row ℕ). r.at) v.rows)) (view_by i h) cs
      (λ n e w. apart (view_by i h (get_or cs n e)) (in-order i h (get_or cs n e)));
}
  where
    apart : (v : View ℕ ℕ) → IsInFileOrder i v → AllPairs ◌≢◌ (map (λ (r : Row ℕ). r.at) v.rows)
    apart v o j k d l w e = let q = o.ascend j k d l w in omega arith

-- ---- and back

-- later rows stand at later members
pub later-rows : (r : Row ℕ) (rows : List (Row ℕ)) → AllPairs ◌<◌ (map (λ s. s.at) (r ∷ rows))
    → All (λ s. r.at < s.at) rows
later-rows r rows p k d l =
    let e = get_or-map (λ (s : Row ℕ). s.at) rows k d 0 l in
    let n = length-map rows (λ (s : Row ℕ). s.at) in
    let h : r.at < get_or (map (λ (s : Row ℕ). s.at) rows) k 0 = p 0 (suc k) 0 (omega arith) (omega arith) in
    omega arith

-- rows that ascend, after a first that comes before them, ascend
pub ascend-on : (r : Row ℕ) (rows : List (Row ℕ)) → AllPairs ◌<◌ (map (λ s. s.at) (r ∷ rows))
    → AllPairs ◌<◌ (map (λ s. s.at) rows)
ascend-on r rows p j k d l w = p (suc j) (suc k) d (omega arith) (omega arith)

-- before the first row there is none
row-before : (y : ℕ) (rows : List (Row ℕ)) → All (λ r. y < r.at) rows → row_in rows y ≡ None
row-before y [] a = refl
row-before y (r ∷ rows) a =
    let l = a 0 r (omega arith) in
    let e : (r.at == y) ≡ false = grind (arith, nat_tests) in
    rw e (row-before y rows (λ k d l. a (suc k) d (omega arith)))

-- no rows are made of no rows
none-left : (ys : List ℕ) → rows_by (summary_in []) ys ≡ []
none-left [] = refl
none-left (y ∷ ys) = none-left ys

-- one member more, which has a row or none
taken : (h : ℕ → Option (Row ℕ)) (n : ℕ) (b : Bool) (ys : List ℕ) (r : Row ℕ) (rows : List (Row ℕ)) → b ≡ true → h n
    ≡ Some r
    → filter_map h ys ≡ rows → filter_map h (cond b (n ∷ ys) ys) ≡ r ∷ rows
taken h n b ys r rows e f g = rw (e, f, g) refl

-- a row before those that are left
left : (h : ℕ → Option (Row ℕ)) (n : ℕ) (b : Bool) (ys : List ℕ) (rows : List (Row ℕ)) → h n ≡ None
    → filter_map h ys ≡ rows → filter_map h (cond b (n ∷ ys) ys) ≡ rows
left h n true ys rows f g = rw (f, g) refl
left h n false ys rows f g = g

-- the row at its own member
own-row : (r : Row ℕ) (rows : List (Row ℕ)) (n : ℕ) → (r.at == n) ≡ true → r.at ≡ n
    → row_at n (summary_in (r ∷ rows) n) ≡ Some r
own-row r rows n t e = rw t (ap (λ m. Some (record { at = m; summary = r.summary })) (sym e))

-- rows that pass, from the member n on and below n + k
back-from : (p : ℕ → Bool) (n k : ℕ) (rows : List (Row ℕ)) → All (λ r. n ≤ r.at) rows
    → AllPairs ◌<◌ (map (λ r. r.at) rows) → All (λ r. (r.at < n + k) × (p r.at ≡ true)) rows
    → rows_by (summary_in rows) (filter p (range_with_len n k)) ≡ rows
back-from p n zero [] a o q = refl
back-from p n zero (r ∷ rows) a o q =
    let l = a 0 r (omega arith) in let h = (q 0 r (omega arith)).0 in absurd (omega arith)
back-from p n (suc k) [] a o q = none-left (filter p (range_with_len n (suc k)))
back-from p n (suc k) (r ∷ rows) a o q = elim (eqb_tells r.at n) [
  | inl t ↦
      let first : p n ≡ true = ap p (sym t.1) ∙ (q 0 r (omega arith)).1 in
      let above : All (λ s. n + 1 ≤ s.at) rows = λ j d l. let h = later-rows r rows o j d l in let e = t.1 in
      omega arith in
      let rest = back-from p (n + 1) k rows above (ascend-on r rows o)
      (λ j d l. let h = q (suc j) d (omega arith) in (omega (arith, h.0), h.1)) in
      taken (λ y. row_at y (summary_in (r ∷ rows) y)) n (p n) (filter p (range_with_len (n + 1) k)) r rows first
      (own-row r rows n t.0 t.1) (filter_map_same (λ y. row_at y (summary_in (r ∷ rows) y))
      (λ y. row_at y (summary_in rows y)) (filter p (range_with_len (n + 1) k))
      (λ y c. let l = (Contains-from_range_at (n + 1) k y
      (Contains-from_filter p (range_with_len (n + 1) k) y c).0).0 in
      let m = t.1 in
      let e : (r.at == y) ≡ false = grind (arith, nat_tests) in
      rw e refl) ∙ rest)
  | inr t ↦
      let l = a 0 r (omega arith) in
      let m = t.1 in
      let above : All (λ s. n + 1 ≤ s.at) (r ∷ rows) = from (omega arith) (later-rows r rows o) in
      left (λ y. row_at y (summary_in (r ∷ rows) y)) n (p n) (filter p (range_with_len (n + 1) k)) (r ∷ rows)
      (ap (λ w. row_at n (option_map (λ (s : Row ℕ). s.summary) w))
      (row-before n (r ∷ rows) (λ j d l. let h = above j d l in omega arith)))
      (back-from p (n + 1) k (r ∷ rows) above o
      (λ j d l. let h = q j d l in (omega (arith, h.0), h.1)))
]
  where
    from : n + 1 ≤ r.at → All (λ s. r.at < s.at) rows → All (λ s. n + 1 ≤ s.at) (r ∷ rows)
    from b f zero d l = b
    from b f (suc j) d l = let h = f j d (omega arith) in omega arith

-- rows in file order are those of the function that finds each at its member
pub rows-back : (i : Instance) (v : View ℕ ℕ) → IsInFileOrder i v
    → rows_by (summary_in v.rows) (members_of i v.target) ≡ v.rows
rows-back i v o = grind (arith, back-from, Decides-eqb)
