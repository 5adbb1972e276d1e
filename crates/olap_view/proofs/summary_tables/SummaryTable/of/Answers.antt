-- One view more, and all of them.
use Rattle.std.proofs.Common.{◌≡◌, ◌<◌, ◌≤◌, ℕ, List, length, get_or, ap, sym, subst, ◌∙◌, arith}
use Rattle.std.{proofs.lemmas.List.{get_or-map, length-map}, specs.Prelude.Contains}
use Rattle.olap_base.{proofs.ListLemmas.Contains-map, specs.Instance.Instance, specs.Views.View}
use Rattle.olap_view.proofs.{SeenLemmas.each_view, SummaryTableLemmas.{filled_all, filled_first, filled_next}}
use Rattle.olap_view.specs.{Seen.{each_view_of, ids, view_of, views_of}, Stores.IsInFileOrder}
use Rattle.olap_view.specs.SummaryTables.{categories_in}
use Rattle.olap_view.specs.declared.views.View as told
use Rattle.olap_view.proofs.summary_tables.SummaryTable.of.Goals as goal

module _ (views read : List told.View) (k : ℕ) (v : told.View) (same : read ≡ views) (h : k < length read)
    (is : v ≡ get_or read k v) where
  inside : k < length views
  inside = subst (λ (l : List told.View). k < length l) same h

  here : v ≡ get_or views k v
  here = is ∙ ap (λ (l : List told.View). get_or l k v) same

  inside_each : k < length (each_view_of views)
  inside_each = let n = length-map views view_of in let h = inside in omega arith

  here_each : view_of v ≡ get_or (each_view_of views) k (view_of v)
  here_each = ap view_of here ∙ sym (get_or-map view_of views k v (view_of v) inside)

  among : Contains (categories_in (each_view_of views)) v.category.0
  among = Contains-map (λ (w : View ℕ ℕ). w.target) (each_view_of views) (view_of v)
      (Contains-map view_of views v (k, inside, sym here))

pub views-init : goal.views-init
views-init c = filled_first c.args.legal.now (views_of c.args.store.now) c.in_ok-table.table
    c.in_ok-table.ensures.instance
    (c.in_ok-table.ensures.categories ∙ ap ids c.deref.ensures.value ∙ c.in_ok-categories.ensures)
    c.in_ok-table.ensures.empty

pub fill-requires-clause-among : goal.fill-requires-clause-among
fill-requires-clause-among c =
    subst (λ (cs : List ℕ). Contains cs c.view-item.result.category.0) (sym c.views.invariant.categories)
    (among c.args.store.now.views c.items-view-items.result.now c.views.view-index c.view-item.result
    c.items-view-items.ensures c.views-test.true c.view-item.is)

pub fill-requires-clause-order : goal.fill-requires-clause-order
fill-requires-clause-order c =
    subst (λ (i : Instance). IsInFileOrder i (view_of v)) (sym c.views.invariant.instance)
    (each_view (IsInFileOrder c.args.legal.now) views k v (inside views read k v same c.views-test.true c.view-item.is)
    (here views read k v same c.views-test.true c.view-item.is) c.requires.order)
  where
    open c use {
      args.store.now.views,
      items-view-items.result.now as read,
      items-view-items.ensures as same,
      views.view-index as k,
      view-item.result as v,
    }

pub views-preserved : goal.views-preserved
views-preserved c =
    filled_next c.args.legal.now (views_of c.args.store.now) k c.views.table c.fill.new.self c.requires.differ
    c.requires.order (inside_each views read k v same c.views-test.true c.view-item.is) (view_of v)
    (here_each views read k v same c.views-test.true c.view-item.is) c.views.invariant c.fill.ensures.instance
    c.fill.ensures.categories c.fill.ensures.at
  where
    open c use {
      args.store.now.views,
      items-view-items.result.now as read,
      items-view-items.ensures as same,
      views.view-index as k,
      view-item.result as v,
    }

pub returns-clause-views : goal.returns-clause-views
returns-clause-views c =
    let long : length (views_of c.args.store.now) ≤ c.views.view-index =
    let n = length-map c.args.store.now.views view_of in
    let m = ap length c.items-view-items.ensures in
    let h = c.views-test.false in omega arith in
    filled_all c.args.legal.now (views_of c.args.store.now) c.views.view-index c.views.table c.requires.order long
    c.views.invariant
