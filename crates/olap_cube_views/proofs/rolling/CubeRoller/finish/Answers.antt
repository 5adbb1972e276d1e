-- The view of the tally is that of the text, or its first fault.
use Rattle.std.proofs.{Common.{List, ap, sym, subst, ◌∙◌}, lemmas.Result.err_from_is_err_and}
use Rattle.olap_base.specs.{Instance.Instance, Refusing.IsRefusedBy, Views.direct_view}
use Rattle.olap_cube.specs.CubeViews.{tuples}
use Rattle.olap_records.specs.Standing.{records_fed}
use Rattle.olap_view.specs.Seen.{ids}
use Rattle.olap_cube_views.proofs.CubeFeedLemmas.{back, own}
use Rattle.olap_cube_views.specs.CubeFeeding.{HasTakenFacts, cube_fed_read, cube_rolling}
use Rattle.olap_cube_views.specs.{CubeRollingUp.IsCubeRolledUp, Dimensions.{graphs_of, instances_in}, Seen.cube_view_of}
use Rattle.olap_cube_views.proofs.rolling.CubeRoller.finish.Goals as goal

pub returns-in_err-finish-clause-view : goal.returns-in_err-finish-clause-view
returns-in_err-finish-clause-view c = λ gs is target fed h.
    let a = c.self.inside in
    let r = cube_rolling (graphs_of a.graphs.now) a.front.begun a.front.splitter.stands a.front.tally in
    let js = instances_in a.columns.now in
    let k = subst (HasTakenFacts gs is target fed) (sym c.self.view_is) h in
    let stop = err_from_is_err_and c.from_residual-in_err-finish.result c.from_residual-in_err-finish.ensures.1 in
    rw (stop.1, stop.2)
    (back gs is target fed r js c.self.invariant.same k
    (λ hs ks. IsRefusedBy c.in_err-finish.field-0.0 (cube_fed_read hs ks fed))
    (c.in_err-finish.ensures.ends target fed (own gs is target fed r js c.self.invariant.same k)))

pub view-requires : goal.view-requires
view-requires c =
    c.finish.ensures.target ∙ c.self.invariant.target_same
    ∙ sym (ap ids c.deref.ensures.value ∙ c.in_ok-target.ensures)

pub returns-clause-view : goal.returns-clause-view
returns-clause-view c = λ gs is target fed h.
    let a = c.self.inside in
    let r = cube_rolling (graphs_of a.graphs.now) a.front.begun a.front.splitter.stands a.front.tally in
    let js = instances_in a.columns.now in
    let k = subst (HasTakenFacts gs is target fed) (sym c.self.view_is) h in
    let t = c.in_ok-finish.ensures.ends target fed (own gs is target fed r js c.self.invariant.same k) in
    let view = cube_view_of c.in_ok-view.field-0 in
    let named = ap ids c.deref.ensures.value ∙ c.in_ok-target.ensures ∙ sym c.self.invariant.target_same
    ∙ k.target_is in
    back gs is target fed r js c.self.invariant.same k
    (λ hs ks. IsCubeRolledUp hs ks (records_fed fed) target view)
    (record {
      facts = t.facts;
      read = t.read;
      direct = c.in_ok-view.ensures.view t.facts t.stands
          ∙ ap (λ (us : List Instance). direct_view (tuples us) t.facts (ids c.deref.result.now))
          (c.finish.ensures.instances ∙ c.self.invariant.same)
          ∙ ap (direct_view (tuples js) t.facts) named;
    })
