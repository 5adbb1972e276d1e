-- One view more, whose bit is in the mask or isn't.
use Rattle.std.proofs.Common.{rules, ◌≡◌, ◌≢◌, ◌<◌, ◌≤◌, ◌+◌, ◌*◌, ◌++◌, [], ℕ, List, length, get_or, map, take, ap, sym, subst, ◌∙◌, refl, arith, length-append}
use Rattle.std.proofs.lemmas.List.{length-map, take_all, Elements.{All-append, All-nil}}
use Rattle.std.specs.Prelude.{All, AllPairs, Contains}
use Rattle.olap_base.{proofs.GeneralLemmas.if_ok, proofs.ListLemmas.contains_head, specs.Instance.Instance}
use Rattle.olap_base.specs.{Limits.most_members, Views.{Row, members, row_at, rows_from_views}}
use Rattle.olap_view.proofs.{MergingLemmas.merged_start, SeenLemmas.{each_row, each_view}}
use Rattle.olap_view.proofs.StoresLemmas.{few_rows, rows_chosen, rows_chosen_more, rows_chosen_same}
use Rattle.olap_view.proofs.{ViewingLemmas.rows_same, viewing.from_views.Goals.{then-has_bit, else-has_bit}}
use Rattle.olap_view.specs.{Merging.{AreMerged, total_of_rows}, Seen.{each_view_of, row_of, rows_of, view_of, views_of}}
use Rattle.olap_view.specs.{Stores.{Fits, IsStored, chosen}, SummaryTables.{stands_at, view_at}}
use Rattle.olap_view.specs.declared.views.Row as row
use Rattle.olap_view.specs.declared.views.View as told
use Rattle.olap_view.proofs.viewing.from_views.Goals as goal

module _ (views read : List told.View) (k : ℕ) (v : told.View) (same : read ≡ views) where
  inside : k < length read → k < length views
  inside h = subst (λ (l : List told.View). k < length l) same h

  here : v ≡ get_or read k v → v ≡ get_or views k v
  here e = e ∙ ap (λ (l : List told.View). get_or l k v) same

ended : (views read : List told.View) (k : ℕ) → read ≡ views → length read ≤ k → take k views ≡ views
ended views read k e h = take_all k views (subst (λ (l : List told.View). length l ≤ k) e h)

-- a view of an instance has no more rows than the instance may have members
short : (i : Instance) (views : List told.View) (k : ℕ) (v : told.View) (rows : List row.Row) → k < length views
    → v ≡ get_or views k v → All (λ w. AllPairs ◌≢◌ (map (λ r. r.at) w.rows)) (each_view_of views)
    → All (λ w. All (λ r. r.at < length i) w.rows) (each_view_of views) → length i ≤ most_members → rows ≡ v.rows
    → length rows ≤ most_members
short i views k v rows h e differ inside few q =
    let d = each_view (λ w. AllPairs ◌≢◌ (map (λ r. r.at) w.rows)) views k v h e differ in
    let a = each_view (λ w. All (λ r. r.at < length i) w.rows) views k v h e inside in
    let t : length (rows_of v.rows) ≤ length i = few_rows (length i) (rows_of v.rows) d a in
    let l : length (rows_of v.rows) ≡ length v.rows = length-map v.rows row_of in
    let n : length rows ≡ length v.rows = ap length q in
    omega arith

pub views-init : goal.views-init
views-init c = grind (arith, merged_start, All-nil)

pub join_rows-requires-clause-few : goal.join_rows-requires-clause-few
join_rows-requires-clause-few c = grind (arith, rows_chosen, length-map)

pub join_rows-requires-clause-at_members : goal.join_rows-requires-clause-at_members
join_rows-requires-clause-at_members c = λ k d h.
    let n = length c.args.legal.now in
    let at = each_view (λ w. All (λ r. r.at < n) w.rows) views c.views.k v
    (inside views c.items-view-items.result.now c.views.k v same c.views-test.true)
    (here views c.items-view-items.result.now c.views.k v same c.view-item.is) c.requires.at_members in
    subst (λ (i : Instance). (get_or c.items.result.now k d).member.0 < length i) (sym c.views.invariant.instance)
    (subst (λ (l : List row.Row). (get_or l k d).member.0 < n) (sym c.items.ensures)
    (each_row (λ r. r.at < n) v.rows k d (subst (λ (l : List row.Row). k < length l) c.items.ensures h) at))
  where
    open c use {args.store.now.views, view-item.result as v, items-view-items.ensures as same}

pub join_rows-requires-clause-stored : goal.join_rows-requires-clause-stored
join_rows-requires-clause-stored c =
    subst (λ (l : List row.Row). All IsStored (rows_of l)) (sym c.items.ensures)
    (each_view Fits views c.views.k v
    (inside views c.items-view-items.result.now c.views.k v same c.views-test.true)
    (here views c.items-view-items.result.now c.views.k v same c.view-item.is) c.requires.fit)
  where
    open c use {args.store.now.views, view-item.result as v, items-view-items.ensures as same}

pub join_rows-requires-clause-short : goal.join_rows-requires-clause-short
join_rows-requires-clause-short c = grind (arith, short)

pub views-preserved : goal.views-preserved
views-preserved c =
    let h = inside views c.items-view-items.result.now k v same c.views-test.true in
    let e = here views c.items-view-items.result.now k v same c.view-item.is in
    let rows = rows_chosen (each_view_of (take k views)) mask in
    let next = rows_chosen (each_view_of (take (k + 1) views)) mask in
    let few : length rows ≤ k * most_members = inv.few in
    elim c.if-has_bit.branch [
      | then-has_bit w ↦
          let u = w.join_rows.new.table in
          let j = w.join_rows.ensures in
          let more : next ≡ rows ++ rows_of v.rows =
          rows_chosen_more views k v mask h e (sym c.has_bit.ensures ∙ w.if-has_bit.true) in
          let stored : All IsStored (rows_of v.rows) = each_view Fits views k v h e c.requires.fit in
          let size : length v.rows ≤ most_members =
          short i views k v v.rows h e c.requires.store.members c.requires.at_members
          (rw c.in_ok-table.ensures.instance at c.in_ok-table.ensures.few) refl in
          record {
            instance = ap (λ t. t.instance) w.table-is ∙ j.instance ∙ inv.instance;
            categories = ap (λ t. t.categories) w.table-is ∙ j.categories ∙ inv.categories;
            merged = subst (AreMerged next) (sym w.table-is)
                (subst (λ (l : List (Row ℕ)). AreMerged l u) (sym more)
                (subst (λ (l : List row.Row). AreMerged (rows ++ rows_of l) u) w.items.ensures
                (j.merged rows inv.merged)));
            few = subst (λ (l : List (Row ℕ)). length l ≤ (k + 1) * most_members) (sym more)
                (let a = length-append rows (rows_of v.rows) in let b = length-map v.rows row_of in omega arith);
            stored = subst (All IsStored) (sym more) (All-append IsStored rows (rows_of v.rows) inv.stored stored);
          }
      | else-has_bit w ↦
          let kept : next ≡ rows =
          rows_chosen_same views k v mask h e (sym c.has_bit.ensures ∙ w.if-has_bit.false) in
          record {
            instance = ap (λ t. t.instance) w.table-is ∙ inv.instance;
            categories = ap (λ t. t.categories) w.table-is ∙ inv.categories;
            merged = subst (AreMerged next) (sym w.table-is)
                (subst (λ (l : List (Row ℕ)). AreMerged l c.views.table) (sym kept) inv.merged);
            few = subst (λ (l : List (Row ℕ)). length l ≤ (k + 1) * most_members) (sym kept) (omega arith);
            stored = subst (All IsStored) (sym kept) inv.stored;
          }
    ]
  where
    open c use {
      args.legal.now as i,
      args.store.now.views,
      args.mask,
      views.k,
      views.invariant as inv,
      view-item.result as v,
      items-view-items.ensures as same,
    }

pub view-requires : goal.view-requires
view-requires c = grind (arith, contains_head)

pub returns-clause-members : goal.returns-clause-members
returns-clause-members c = search rules

pub returns-clause-view : goal.returns-clause-view
returns-clause-view c =
    let all : take c.views.k views ≡ views = ended views c.items-view-items.result.now c.views.k
    c.items-view-items.ensures c.views-test.false in
    let rows = rows_chosen (views_of c.args.store.now) c.args.mask in
    let merged : AreMerged rows t =
    subst (λ (l : List told.View). AreMerged (rows_chosen (each_view_of l) c.args.mask) t) all inv.merged in
    let among : Contains t.categories d =
    subst (λ (l : List ℕ). Contains l d) (sym inv.categories) (contains_head d []) in
    if_ok c.view.result (λ (v : told.View). view_of v ≡ view_at t d)
    (λ (v : told.View). view_of v
    ≡ record { target = d; rows = rows_from_views (members i) d (chosen (views_of c.args.store.now) c.args.mask) })
    (λ v e. e ∙ ap (λ (r : List (Row ℕ)). record { target = d; rows = r })
    (rows_same t.instance d (λ y. row_at y (stands_at t y)) (λ y. row_at y (total_of_rows t.instance rows y))
    (λ y m. ap (row_at y) (merged.at y
    (record { member = m.0; category = subst (Contains t.categories) (sym m.1) among })))
    ∙ ap (λ (j : Instance). rows_from_views (members j) d
    (chosen (views_of c.args.store.now) c.args.mask)) inv.instance))
    c.view.ensures.view
  where
    open c use {args.legal.now as i, args.c.0 as d, args.store.now.views, views.table as t, views.invariant as inv}
