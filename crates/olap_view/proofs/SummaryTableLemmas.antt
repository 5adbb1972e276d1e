-- What stands in summary tables.
--     filled_start, filled_more  rows of stored views, one after another
use Rattle.std.proofs.Common.{◌≡◌, ◌≢◌, ℕ, suc, ◌+◌, ◌<◌, ◌≤◌, List, [], ◌∷◌, ◌++◌, length, get_or, set, map, take, cond, refl, ap, sym, subst, ◌∙◌, inl, inr, arith, Option, Some, None, IfSome, get_or-set_same, get_or-set_other}
use Rattle.std.proofs.lemmas.{Bool.{eq-eqb, ne_eqb}, Grind.common_steps}
use Rattle.std.proofs.lemmas.List.{get_or-map, get_or-take, get_or_default, length-map, length-take-le, map-append, take_more}
use Rattle.std.proofs.lemmas.List.{Elements.Contains-get_or, Folds.find-append}
use Rattle.std.{proofs.lemmas.List.FromFn.{get_or-range_with_len, length-range_with_len}, specs.List.range_with_len}
use Rattle.std.specs.{Option.{option_map, option_or}, Prelude.{◌==◌, ◌⊎◌, All, AllPairs, Contains, filter_map, find}}
use Rattle.olap_base.{proofs.ListLemmas.{Contains-map, map_same}, specs.Instance.{Instance, IsMemberOf, category_of}}
use Rattle.olap_base.specs.{Reaching.reaches, Summaries.{Summary, ◌⊕◌}, Views.{Row, View, members_of, row_at}}
use Rattle.olap_base.specs.declared.ids.CatId.{CatId}
use Rattle.olap_view.proofs.{FileOrderLemmas.rows-back, TableLemmas.places_kept, ViewingLemmas.rows_same}
use Rattle.olap_view.specs.{Bounds.IsJoinable, Seen.{each_view_of, ids, summary_of}, Stores.{IsInFileOrder, summary_in}}
use Rattle.olap_view.specs.SummaryTables.{IsSummaryTable, Summarized, categories_in, stands_at, summarized, view_at, views_at}
use Rattle.olap_view.specs.Tables.{AreJoined, HasPlaces, HasRoom, IsAmong, categories_of, place_in, summary_at, view_in, when}
use Rattle.olap_view.specs.declared.tables.Table.{Table}
use native.Mathlib.Decide.{ℕ_discrete}
use Rattle.olap_view.specs.declared.summaries.Summary as told
use Rattle.olap_view.specs.declared.views.View as told_view

-- ---- what stands at a member

-- what stands at a member
pub summarized_is : (i : Instance) (t : Table) (y : ℕ) → y < length i → stands_at (summarized i t) y ≡ summary_at t y
summarized_is i t y h = get_or-map (summary_at t) (range_with_len 0 (length i)) y 0 None (simp length-range_with_len h)
    ∙ ap (summary_at t) (get_or-range_with_len 0 (length i) y 0 h ∙ zero_more y)
  where
    zero_more : (y : ℕ) → 0 + y ≡ y
    zero_more y = omega arith

-- after a summary was put at y
pub put_at : (i : Instance) (t u : Table) (y : ℕ) (s : told.Summary) → HasPlaces i t → IsAmong i (categories_of t) y
    → u.places ≡ t.places → u.summaries.items ≡ set t.summaries.items (place_in t y) (Some s)
    → (z : ℕ) → IsAmong i (categories_of t) z
    → stands_at (summarized i u) z ≡ cond (z == y) (Some (summary_of s)) (stands_at (summarized i t) z)
put_at i t u y s p a f g z m = grind (arith, summarized_is, get_or-set_same, get_or-set_other, eq-eqb, ne_eqb)

-- after a summary was joined to what stands at the members that x reaches
pub joined_at : (i : Instance) (x : ℕ) (s : Summary) (t u : Table) → AreJoined i x s t u
    → (y : ℕ) → IsAmong i (categories_of t) y
    → stands_at (summarized i u) y ≡ stands_at (summarized i t) y ⊕ when (reaches i x y) s
joined_at i x s t u j y m = grind (arith, summarized_is)

-- ---- views

-- the view of a category
pub view_at-is : (i : Instance) (t : Table) (c : ℕ) → view_in i t c ≡ view_at (summarized i t) c
view_at-is i t c = grind (arith, rows_same, summarized_is)

-- the views of the categories
pub views_at-are : (i : Instance) (t : Table) → map (view_in i t) (categories_of t) ≡ views_at (summarized i t)
views_at-are i t = map_same (view_in i t) (view_at (summarized i t)) (categories_of t) (λ c k. view_at-is i t c)

-- ---- rows of stored views, one after another

-- no row stands at y
pub absent : (y : ℕ) (rows : List (Row ℕ)) → All (λ r. r.at ≢ y) rows → summary_in rows y ≡ None
absent y [] a = refl
absent y (r ∷ rows) a =
    ap (λ b. option_map (λ (r : Row ℕ). r.summary) (cond b (Some r) (find (λ r. r.at == y) rows)))
    (ne_eqb r.at y (a 0 r (omega arith)))
    ∙ absent y rows (λ k d l. a (suc k) d (omega arith))

-- what rows have at y, or else what was there, after one row more
pub filled_more : (rows : List (Row ℕ)) (r : Row ℕ) (y : ℕ) (base before after : Option Summary)
    → summary_in rows r.at ≡ None → before ≡ option_or (summary_in rows y) base
    → after ≡ cond (y == r.at) (Some r.summary) before
    → after ≡ option_or (summary_in (rows ++ r ∷ []) y) base
filled_more rows r y base before after n e f = grind (arith, find-append, eq-eqb, ne_eqb)

-- the rows before the k-th stand at other members
pub not_before : (rows : List (Row ℕ)) (k : ℕ) (d : Row ℕ) → AllPairs ◌<◌ (map (λ r. r.at) rows) → k < length rows
    → summary_in (take k rows) (get_or rows k d).at ≡ None
not_before rows k d a h = absent (get_or rows k d).at (take k rows) (λ j e l.
    let size : length (take k rows) ≡ k = length-take-le k rows (omega arith) in
    let before : j < k = omega arith in
    let long = length-map rows (λ (r : Row ℕ). r.at) in
    let less : get_or (map (λ (r : Row ℕ). r.at) rows) j 0 < get_or (map (λ (r : Row ℕ). r.at) rows) k 0 =
    a j k 0 before (omega arith) in
    let first = get_or-map (λ (r : Row ℕ). r.at) rows j e 0 (omega arith) in
    let second = get_or-map (λ (r : Row ℕ). r.at) rows k d 0 h in
    let same : (get_or (take k rows) j e).at ≡ (get_or rows j e).at =
    ap (λ (r : Row ℕ). r.at) (get_or-take k rows j e before) in
    differ ((get_or (take k rows) j e).at) ((get_or rows k d).at) (omega arith))
  where
    differ : (a b : ℕ) → a < b → a ≢ b
    differ a b h e = omega arith

-- ---- stored views, one after another

-- the views before the k-th stand in the table, and of the others nothing
pub record IsFilled (i : Instance) (views : List (View ℕ ℕ)) (k : ℕ) (t : Summarized) : Type 0 where
  pub instance : t.instance ≡ i
  pub categories : t.categories ≡ categories_in views
  pub filled : (j : ℕ) (d : View ℕ ℕ) → j < k → j < length views → (y : ℕ) → IsMemberOf i (get_or views j d).target y
      → stands_at t y ≡ summary_in (get_or views j d).rows y
  pub empty : (j : ℕ) (d : View ℕ ℕ) → k ≤ j → j < length views → (y : ℕ) → IsMemberOf i (get_or views j d).target y
      → stands_at t y ≡ None

-- a member of the category of one of the views
among_view : (i : Instance) (views : List (View ℕ ℕ)) (t : Summarized) → t.instance ≡ i → t.categories
    ≡ categories_in views
    → (j : ℕ) (d : View ℕ ℕ) → j < length views → (y : ℕ) → IsMemberOf i (get_or views j d).target y
    → IsAmong t.instance t.categories y
among_view i views t e f j d l y m = record {
  member = subst (λ (i : Instance). y < length i) (sym e) m.0;
  category = subst (λ (i : Instance). Contains t.categories (category_of i y)) (sym e)
      (subst (λ (cs : List ℕ). Contains cs (category_of i y)) (sym f)
      (subst (Contains (categories_in views)) (sym m.1)
      (Contains-map (λ (v : View ℕ ℕ). v.target) views (get_or views j d) (Contains-get_or views j d l))));
}

-- the table before the first view
pub filled_first : (i : Instance) (views : List (View ℕ ℕ)) (t : Summarized) → t.instance ≡ i
    → t.categories ≡ categories_in views → ((y : ℕ) → IsAmong t.instance t.categories y → stands_at t y ≡ None)
    → IsFilled i views 0 t
filled_first i views t e f none = grind (arith, among_view)

-- or nothing
or_none : (o : Option Summary) → option_or o None ≡ o
or_none None = refl
or_none (Some s) = refl

-- rows at members of one category have nothing at a member of another
other_category : (i : Instance) (v : View ℕ ℕ) (y : ℕ) → IsInFileOrder i v → category_of i y ≢ v.target
    → summary_in v.rows y ≡ None
other_category i v y o n = absent y v.rows (λ k d l e. n (ap (category_of i) (sym e) ∙ (o.members k d l).1))

-- one view more
pub filled_next : (i : Instance) (views : List (View ℕ ℕ)) (k : ℕ) (t u : Summarized)
    → AllPairs ◌≢◌ (categories_in views)
    → All (IsInFileOrder i) views → k < length views → (v : View ℕ ℕ) → v ≡ get_or views k v
    → IsFilled i views k t → u.instance ≡ t.instance → u.categories ≡ t.categories
    → ((y : ℕ) → IsAmong t.instance t.categories y → stands_at u y ≡ option_or (summary_in v.rows y) (stands_at t y))
    → IsFilled i views (k + 1) u
filled_next i views k t u differ order h v here p e f at = record {
  instance = e ∙ p.instance;
  categories = f ∙ p.categories;
  filled = λ j d l q y m. elim (ℕ_discrete j k) [
    | yes z ↦ this j d z q y m
    | no n ↦ let less : j < k = omega arith in others j d n q y m ∙ p.filled j d less q y m
  ];
  empty = λ j d l q y m. others j d (omega arith) q y m ∙ p.empty j d (omega arith) q y m;
}
  where
    view_is : (j : ℕ) (d : View ℕ ℕ) → j ≡ k → get_or views j d ≡ v
    view_is j d z = ap (λ n. get_or views n d) z ∙ get_or_default views k d v h ∙ sym here

    -- at members of this view's category nothing stood
    this : (j : ℕ) (d : View ℕ ℕ) → j ≡ k → j < length views → (y : ℕ) → IsMemberOf i (get_or views j d).target y
        → stands_at u y ≡ summary_in (get_or views j d).rows y
    this j d z q y m =
        at y (among_view i views t p.instance p.categories j d q y m)
        ∙ ap (option_or (summary_in v.rows y)) (p.empty j d (omega arith) q y m)
        ∙ or_none (summary_in v.rows y) ∙ ap (λ (w : View ℕ ℕ). summary_in w.rows y) (sym (view_is j d z))

    category_is : (j : ℕ) (d : View ℕ ℕ) → j < length views → get_or (categories_in views) j 0
        ≡ (get_or views j d).target
    category_is j d q = get_or-map (λ (w : View ℕ ℕ). w.target) views j d 0 q

    apart : (j : ℕ) (d : View ℕ ℕ) → j ≢ k → j < length views → (get_or views j d).target ≢ v.target
    apart j d n q w = elim (order_of j k n) [
      | inl l ↦ differ j k 0 l (in_map k h) same
      | inr l ↦ differ k j 0 l (in_map j q) (sym same)
    ]
      where
        same : get_or (categories_in views) j 0 ≡ get_or (categories_in views) k 0
        same = category_is j d q ∙ w ∙ ap (λ (x : View ℕ ℕ). x.target) here ∙ sym (category_is k v h)

        order_of : (a b : ℕ) → a ≢ b → (a < b) ⊎ (b < a)
        order_of a b n = elim (lt_or a b) [ inl l ↦ inl l | inr g ↦ inr (omega arith) ]
          where
            lt_or : (a b : ℕ) → (a < b) ⊎ (b ≤ a)
            lt_or a b = grind arith

        in_map : (m : ℕ) → m < length views → m < length (categories_in views)
        in_map m l = let e = length-map views (λ (w : View ℕ ℕ). w.target) in omega arith

    -- at members of the other views' categories nothing changes
    others : (j : ℕ) (d : View ℕ ℕ) → j ≢ k → j < length views → (y : ℕ) → IsMemberOf i (get_or views j d).target y
        → stands_at u y ≡ stands_at t y
    others j d n q y m =
        at y (among_view i views t p.instance p.categories j d q y m)
        ∙ ap (λ o. option_or o (stands_at t y)) (other_category i v y
        (subst (IsInFileOrder i) (sym here) (order k v h)) (λ w. apart j d n q (sym m.1 ∙ w)))

-- the view at members at which the rows of a view stand is that view
view_back : (i : Instance) (t : Summarized) (v : View ℕ ℕ) → t.instance ≡ i → IsInFileOrder i v
    → ((y : ℕ) → IsMemberOf i v.target y → stands_at t y ≡ summary_in v.rows y) → view_at t v.target ≡ v
view_back i t v e o s =
    ap (λ j. record {
      target = v.target;
      rows = filter_map (λ y. row_at y (stands_at t y)) (members_of j v.target);
    }) e
    ∙ ap (λ rows. record { target = v.target; rows = rows })
    (rows_same i v.target (λ y. row_at y (stands_at t y)) (λ y. row_at y (summary_in v.rows y))
    (λ y m. ap (row_at y) (s y m)) ∙ rows-back i v o)

-- after the last all views stand in it
pub filled_all : (i : Instance) (views : List (View ℕ ℕ)) (k : ℕ) (t : Summarized) → All (IsInFileOrder i) views
    → length views ≤ k → IsFilled i views k t → views_at t ≡ views
filled_all i views k t order h p =
    ap (map (view_at t)) p.categories ∙ each views (λ j d l. view_back i t (get_or views j d) p.instance (order j d l)
    (p.filled j d (omega arith) l))
  where
    each : (vs : List (View ℕ ℕ))
        → ((j : ℕ) (d : View ℕ ℕ) → j < length vs → view_at t (get_or vs j d).target ≡ get_or vs j d)
        → map (view_at t) (categories_in vs) ≡ vs
    each [] f = refl
    each (v ∷ vs) f = ap (λ w. w ∷ map (view_at t) (categories_in vs)) (f 0 v (omega arith))
        ∙ ap (λ ws. v ∷ ws) (each vs (λ j d l. f (suc j) d (omega arith)))

-- what stands at the members of a category is small, if all that stands in the table is
pub room_in : (i : Instance) (t : Table)
    → ((y : ℕ) → IsAmong i (categories_of t) y → IfSome (stands_at (summarized i t) y) IsJoinable)
    → (c : ℕ) → Contains (categories_of t) c → HasRoom i c t
room_in i t a c k y m e =
    subst (λ (o : Option Summary). IfSome o IsJoinable) (summarized_is i t y m)
    (a y (record { member = m; category = subst (Contains (categories_of t)) (sym e) k }))

-- a table with the same categories and places is a summary table too
pub table_kept : (i : Instance) (t u : Table) → u.categories ≡ t.categories → u.places ≡ t.places
    → length u.summaries.items ≡ length t.summaries.items → IsSummaryTable i t → IsSummaryTable i u
table_kept i t u e f g p = grind (arith, places_kept)

-- the category of one view more
pub categories_more : (views : List told_view.View) (k : ℕ) (v : told_view.View) (cs : List CatId) → k < length views
    → v ≡ get_or views k v → ids cs ≡ categories_in (each_view_of (take k views))
    → ids (cs ++ v.category ∷ []) ≡ categories_in (each_view_of (take (k + 1) views))
categories_more views k v cs h is e = grind (arith, common_steps, map-append, take_more)
