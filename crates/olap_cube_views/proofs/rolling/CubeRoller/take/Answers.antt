-- A piece more, or a refusal of the whole text.
use Rattle.std.proofs.{Common.{◌++◌, sym, subst}, lemmas.Result.err_from_is_err_and}
use Rattle.olap_base.specs.Refusing.{IsRefusedBy}
use Rattle.olap_cube_views.proofs.CubeFeedLemmas.{back, own}
use Rattle.olap_cube_views.specs.CubeFeeding.{HasTakenFacts, cube_fed_read, cube_rolling}
use Rattle.olap_cube_views.specs.Dimensions.{graphs_of, instances_in}
use Rattle.olap_cube_views.proofs.rolling.CubeRoller.take.Goals as goal

pub returns-in_err-take : goal.returns-in_err-take
returns-in_err-take c = record {
  takes = λ gs is target fed h.
      let a = c.self.inside in
      let r = cube_rolling (graphs_of a.graphs.now) a.front.begun a.front.splitter.stands a.front.tally in
      let js = instances_in a.columns.now in
      let k = subst (HasTakenFacts gs is target fed) (sym c.self.view_is) h in
      let stop = err_from_is_err_and c.from_residual.result c.from_residual.ensures.1 in
      rw (stop.1, stop.2) (λ more.
      back gs is target fed r js c.self.invariant.same k
      (λ hs ks. IsRefusedBy c.in_err-take.field-0.0 (cube_fed_read hs ks ((fed ++ c.args.piece.now) ++ more)))
      (c.in_err-take.ensures.takes target fed (own gs is target fed r js c.self.invariant.same k) more));
}

pub returns : goal.returns
returns c = record {
  takes = λ gs is target fed h.
      let r = cube_rolling (graphs_of a.graphs.now) a.front.begun a.front.splitter.stands a.front.tally in
      let js = instances_in a.columns.now in
      let k = subst (HasTakenFacts gs is target fed) (sym c.self.view_is) h in
      back gs is target fed r js c.self.invariant.same k
      (λ hs ks. HasTakenFacts hs ks target (fed ++ c.args.piece.now)
      (cube_rolling (graphs_of a.graphs.now) new.begun new.splitter.stands new.tally))
      (c.in_ok-take.ensures.takes target fed (own gs is target fed r js c.self.invariant.same k));
}
  where
    open c use {self.inside as a, take.new.self as new}
