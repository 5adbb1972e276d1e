use Rattle.std.proofs.Common.{◌≡◌, ◌≤◌, ◌++◌, ◌∷◌, [], List, length, take, sym, subst, arith}
use Rattle.std.proofs.lemmas.{Grind.common_steps, List.take_all}
use Rattle.olap_nav.proofs.{ChosenLemmas.taken_more, FoundLemmas.pattern_is, PatternLemmas.ways_more}
use Rattle.olap_nav.specs.Patterns.{AreWays, found_instance, found_root}
use Rattle.olap_schema.specs.Schemas.{schema_of}
use Rattle.olap_view.specs.Seen.{each_view_of, view_of, views_of}
use Rattle.olap_nav.proofs.refuting.pattern.Goals as goal
use Rattle.olap_view.specs.declared.views.View as told

pub views-preserved : goal.views-preserved
views-preserved c =
    let s = schema_of c.args.schema.now in
    let i = found_instance s c.args.found.now in
    let x = found_root s c.args.found.now in
    let more = ways_more i x c.args.target.0 (each_view_of (take k views)) c.views.pattern.items (view_of v)
    c.reaches_by.result c.views.invariant.ways c.reaches_by.ensures.way in
    record {
      ways = subst (λ l. AreWays i x c.args.target.0 l c.push.new.self.items)
          (sym (taken_more views read k v c.items-view-items.ensures c.views-test.true c.view-item.is))
          (subst (AreWays i x c.args.target.0 (each_view_of (take k views) ++ view_of v ∷ []))
          (sym c.in_ok-push.ensures.items) more);
      count = grind (arith, common_steps);
      room = c.reaches_by.ensures.room;
    }
  where
    open c use {
      args.store.now.views,
      items-view-items.result.now as read,
      views.view-index as k,
      view-item.result as v,
    }

pub returns-clause-pattern : goal.returns-clause-pattern
returns-clause-pattern c =
    let s = schema_of c.args.schema.now in
    let i = found_instance s c.args.found.now in
    let x = found_root s c.args.found.now in
    let all : take c.views.view-index views ≡ views = take_all c.views.view-index views
    (subst (λ (l : List told.View). length l ≤ c.views.view-index) e c.views-test.false) in
    pattern_is s c.args.target.0 c.args.found.now c.constraints-valid.ensures.valid.hierarchy c.requires.found
    (views_of c.args.store.now) c.views.pattern.items
    (subst (λ (l : List told.View). AreWays i x c.args.target.0 (each_view_of l) c.views.pattern.items) all
    c.views.invariant.ways)
  where
    open c use {args.store.now.views, items-view-items.ensures as e}
