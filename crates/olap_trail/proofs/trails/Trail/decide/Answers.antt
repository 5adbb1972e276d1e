-- One decision more.
use Rattle.std.{proofs.Common.{refl, ap, arith}, specs.Result.is_ok}
use Rattle.olap_trail.proofs.DecisionLemmas.{pushed}
use Rattle.olap_trail.proofs.TrailLemmas.{drawn_more, drawn_same, has_room, may_draw, trail_push}
use Rattle.olap_trail.specs.declared.decisions.Decision.{Decision as OneDecision}
use Rattle.olap_trail.proofs.trails.Trail.decide.Goals as goal

pub unwrap-requires : goal.unwrap-requires
unwrap-requires g c =
    let l = has_room c.self.invariant c.self.view_is (record { edge = c.args.edge; present = c.args.present })
    c.requires.edge c.requires.open in
    c.push.ensures.succeeds (omega (arith, l, c.self.inside.decisions.ok))

pub push-requires-then-present : goal.push-requires-then-present
push-requires-then-present g c = (
  omega arith,
  (
    c.self.invariant.width,
    may_draw c.self.invariant c.self.view_is (record { edge = c.args.edge; present = c.args.present })
        c.requires.edge c.requires.open c.ends-ends.result e.edge e.child e.parent,
  ),
)
  where
    open c use {ends-ends.ensures as e}

pub invariant_of-self : goal.invariant_of-self
invariant_of-self g c =
    let d : OneDecision = record { edge = c.args.edge; present = c.args.present } in
    trail_push t is d h.edge h.open c.push.new.self _ c.push-then-present.new.self c.from.result
    (pushed (is_ok c.push.result) _ _ _ (ap is_ok c.unwrap.ensures) c.push.ensures.items) c.push.ensures.capacity
    c.from.ensures refl c.push-then-present.ensures
    (drawn_more t is d h.edge h.open c.ends-ends.result c.ends-ends.ensures.edge c.if-present.true)
  where
    open c use {self.invariant as t, self.view_is as is, requires as h}

pub invariant_of-self-else-present : goal.invariant_of-self-else-present
invariant_of-self-else-present g c =
    let d : OneDecision = record { edge = c.args.edge; present = c.args.present } in
    trail_push t is d h.edge h.open c.push.new.self _ c.self.inside.drawn c.from.result
    (pushed (is_ok c.push.result) _ _ _ (ap is_ok c.unwrap.ensures) c.push.ensures.items) c.push.ensures.capacity
    c.from.ensures refl refl (drawn_same t is d h.edge h.open c.if-present.false)
  where
    open c use {self.invariant as t, self.view_is as is, requires as h}
