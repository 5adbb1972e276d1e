-- One view more.
use Rattle.std.{proofs.Common.{ℕ, ◌≡◌, ◌<◌, ◌∙◌, List, get_or, length, subst, ap}, specs.Prelude.All}
use Rattle.olap_base.specs.Graph.{IsCategory}
use Rattle.olap_view.proofs.{SeenLemmas.each_view, StoreTextLemmas.{stored-view, told-members}}
use Rattle.olap_view.specs.{Seen.rows_of, StoreText.{header, records_behind, records_of_one}}
use Rattle.olap_view.specs.declared.views.View as told
use Rattle.olap_view.proofs.storing.print_views.Goals as goal

inside : (views read : List told.View) (k : ℕ) → read ≡ views → k < length read → k < length views
inside views read k e h = subst (λ (l : List told.View). k < length l) e h

here : (views read : List told.View) (k : ℕ) (v : told.View) → read ≡ views → v ≡ get_or read k v → v ≡ get_or views k v
here views read k v e h = h ∙ ap (λ (l : List told.View). get_or l k v) e

pub name-requires : goal.name-requires
name-requires c =
    each_view (λ v. IsCategory c.args.graph.now v.target) views k c.view-item.result
    (inside views read k same c.views-test.true) (here views read k c.view-item.result same c.view-item.is)
    c.requires.categories
  where
    open c use {
      args.store.now.views,
      items-view-items.result.now as read,
      items-view-items.ensures as same,
      views.view-index as k,
    }

pub print_rows-requires-clause-at_members : goal.print_rows-requires-clause-at_members
print_rows-requires-clause-at_members c =
    let n = length c.args.instance.now in
    told-members n v.rows (each_view (λ w. All (λ r. r.at < n) w.rows) views k v
    (inside views read k same c.views-test.true) (here views read k v same c.view-item.is) c.requires.at_members)
  where
    open c use {
      args.store.now.views,
      items-view-items.result.now as read,
      items-view-items.ensures as same,
      views.view-index as k,
      view-item.result as v,
    }

pub views-preserved : goal.views-preserved
views-preserved c =
    record {
      text = stored-view header (records_of_one c.args.graph.now i) c.items-view-items.result.now c.views.view-index v
          (records_behind c.bytes-name.result.now i (rows_of v.rows)) c.views.out.text c.print_rows.new.out.text
          c.views-test.true c.view-item.is c.views.invariant.text c.in_ok-print_rows.ensures.text
          (ap (λ n. records_behind n i (rows_of v.rows)) (c.bytes-name.ensures ∙ c.name.ensures));
      width = c.in_ok-print_rows.ensures.width ∙ c.views.invariant.width;
    }
  where
    open c use {args.instance.now as i, view-item.result as v}
