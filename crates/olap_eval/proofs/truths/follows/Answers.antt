-- The path goes on from the category reached so far along the rest of the list.
use Rattle.olap_eval.proofs.ShapeLemmas.{next_category, rest_none, follow_step, follow_stop, follow_done}
use Rattle.olap_base.proofs.GeneralLemmas.{refuted}
use Rattle.olap_eval.proofs.truths.follows.Goals as goal

pub path-init : goal.path-init
path-init g c = record { here = c.requires; to = λ q. q; from = λ q. q }

pub path-preserved : goal.path-preserved
path-preserved g c =
    let at = next_category c.args.categories.now c.path.c-index c.path-test.true c.path.invariant in
    follow_step (g.met.S.Shape.shape c.args.s.now) at (c.has_edge.ensures.0 c.if-not-has_edge.false)

pub returns-then-not-has_edge : goal.returns-then-not-has_edge
returns-then-not-has_edge g c =
    let at = next_category c.args.categories.now c.path.c-index c.path-test.true c.path.invariant in
    let none = refuted c.has_edge.result c.if-not-has_edge.true c.has_edge.ensures in
    follow_stop (g.met.S.Shape.shape c.args.s.now) at none

pub returns : goal.returns
returns g c = follow_done c.path.invariant (rest_none c.args.categories.now c.path.c-index c.path-test.false)
