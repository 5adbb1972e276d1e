-- What stands at rows that may be stored.
use Rattle.std.proofs.Common.{◌≡◌, ◌≢◌, ◌<◌, ℕ, List, [], ◌∷◌, length, get_or, refl, sym, ap, subst, ◌∙◌, inl, inr, Option, Some, None, IfSome, arith}
use Rattle.std.proofs.lemmas.List.{length-map, Elements.{All-contains, All-head, All-map, All-tail, Contains-get_or}}
use Rattle.std.specs.{List.cons_option, Prelude.{All, AllPairs, Contains}}
use Rattle.olap_base.proofs.{ListLemmas.{Contains-map, Contains-nil}, ViewLemmas.{is_member_of, members_of_is}}
use Rattle.olap_base.specs.{Deciding.contains_cases, Graph.{Graph, IsCategory}, Instance.category_of, Summaries.Summary}
use Rattle.olap_base.specs.Views.{Row, View, members_of, row_at}
use Rattle.olap_view.proofs.FileOrderLemmas.{all-rows, each-in-order, rows_by, store-of}
use Rattle.olap_view.specs.{StoreReading.IsStoredAt, Stores.{Fits, IsInFileOrder, IsSoundStore, IsStored}}
use Rattle.olap_view.specs.SummaryTables.{Summarized, categories_in, stands_at, view_at, views_at}
use Rattle.olap_delta.specs.Changing.{AreStorable, IsStorable}

-- each row of these members may be stored, so what stands at one of them may
pub rows_stored : (h : ℕ → Option Summary) (ys : List ℕ) → All IsStored (rows_by h ys) → (y : ℕ) → Contains ys y
    → IfSome (h y) (IsStoredAt y)
rows_stored h [] a y k = absurd (Contains-nil y k)
rows_stored h (x ∷ ys) a y k = go (λ a l. rows_stored h ys a y l) (h x) refl a
  where
    go : (All IsStored (rows_by h ys) → Contains ys y → IfSome (h y) (IsStoredAt y)) → (o : Option Summary) → h x ≡ o
        → All IsStored (cons_option (row_at x o) (rows_by h ys)) → IfSome (h y) (IsStoredAt y)
    go later None e a = elim (contains_cases y x ys k) [
      | inl q ↦ subst (λ (o : Option Summary). IfSome o (IsStoredAt y)) (sym e ∙ ap h q) tt
      | inr l ↦ later a l
    ]
    go later (Some s) e a = elim (contains_cases y x ys k) [
      | inl q ↦ subst (λ (o : Option Summary). IfSome o (IsStoredAt y)) (sym e ∙ ap h q)
          (subst (λ z. IsStoredAt z s) q (All-head IsStored (record { at = x; summary = s }) (rows_by h ys) a))
      | inr l ↦ later (All-tail IsStored (record { at = x; summary = s }) (rows_by h ys) a) l
    ]

-- a summary that is stored at a row may be stored
storable : (y : ℕ) (o : Option Summary) → IfSome o (IsStoredAt y) → IfSome o IsStorable
storable y None q = tt
storable y (Some s) q = λ z. record {
  some = q.some;
  few = q.few;
  sum_from = q.sum_from;
  sum_to = q.sum_to;
  least = q.least;
  greatest = q.greatest;
}

-- the table of views that may be stored
pub table_storable : (t : Summarized) (views : List (View ℕ ℕ)) → views_at t ≡ views → All Fits views → AreStorable t
table_storable t views e a y m =
    storable y (stands_at t y) (rows_stored (stands_at t) (members_of t.instance (category_of t.instance y))
    (All-contains Fits (views_at t) (view_at t (category_of t.instance y)) (subst (All Fits) (sym e) a)
    (Contains-map (view_at t) t.categories (category_of t.instance y) m.category))
    y (is_member_of t.instance (category_of t.instance y) y (m.member, refl)))

-- ---- views that are read out

-- its row is a stored one
row_stored : (y : ℕ) (o : Option Summary) → IfSome o IsStorable → IfSome (row_at y o) IsStored
row_stored y None q = tt
row_stored y (Some s) q = q y

-- its row stands at a member
row_inside : (y n : ℕ) (o : Option Summary) → y < n → IfSome (row_at y o) (λ (r : Row ℕ). r.at < n)
row_inside y n None h = tt
row_inside y n (Some s) h = h

-- they are a store of the instance, if those that were read in are
pub table_sound : (g : Graph) (t : Summarized) (views : List (View ℕ ℕ)) → t.categories ≡ categories_in views
    → AreStorable t
    → IsSoundStore g t.instance views → IsSoundStore g t.instance (views_at t)
table_sound g t views e a s = record {
  store = store-of t.instance (stands_at t) t.categories
      (let f = s.store.few in let n = length-map views (λ (v : View ℕ ℕ). v.target) in let m = ap length e in
      omega arith)
      (subst (AllPairs ◌≢◌) (sym e) s.store.categories);
  fit = All-map Fits (view_at t) t.categories
      (λ k d l. fits (get_or t.categories k d) (Contains-get_or t.categories k d l));
  categories = All-map (λ (v : View ℕ ℕ). IsCategory g v.target) (view_at t) t.categories
      (subst (All (IsCategory g)) (sym e) (All-map (IsCategory g) (λ (v : View ℕ ℕ). v.target) views s.categories));
  at_members = All-map (λ (v : View ℕ ℕ). All (λ r. r.at < length t.instance) v.rows) (view_at t) t.categories
      (λ k d l. all-rows (λ (r : Row ℕ). r.at < length t.instance) (stands_at t)
      (members_of t.instance (get_or t.categories k d))
      (λ y m. row_inside y (length t.instance) (stands_at t y)
      (members_of_is t.instance (get_or t.categories k d) y m).0));
}
  where
    fits : (c : ℕ) → Contains t.categories c → Fits (view_at t c)
    fits c k = all-rows IsStored (stands_at t) (members_of t.instance c) (λ y m.
        let q = members_of_is t.instance c y m in
        row_stored y (stands_at t y)
        (a y (record { member = q.0; category = subst (Contains t.categories) (sym q.1) k })))

-- the rows of a table stand in file order
pub table_order : (t : Summarized) → All (IsInFileOrder t.instance) (views_at t)
table_order t = each-in-order t.instance (stands_at t) t.categories
