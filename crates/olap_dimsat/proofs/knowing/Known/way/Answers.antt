use Rattle.std.proofs.Common.{true, false, refl}
use Rattle.olap_dimsat.{proofs.KnowingLemmas.{reach_test, way_by}, specs.Asking.task_of}
use Rattle.olap_trail.specs.Decisions.{present_graph}
use Rattle.olap_dimsat.proofs.knowing.Known.way.Goals as goal

pub returns-then-reaches : goal.returns-then-reaches
returns-then-reaches c =
    let s = c.args.self.now in
    way_by (task_of s.asker.now) s.decided.now c.args.c.0 c.args.d.0 true _
    (reach_test (present_graph s.decided.now) c.args.c.0 c.args.d.0 _ true c.reaches.ensures c.if-reaches.true) refl

pub returns-then-reaches-2 : goal.returns-then-reaches-2
returns-then-reaches-2 c =
    let s = c.args.self.now in
    way_by (task_of s.asker.now) s.decided.now c.args.c.0 c.args.d.0 false true
    (reach_test (present_graph s.decided.now) c.args.c.0 c.args.d.0 _ false c.reaches.ensures c.if-reaches.false)
    (reach_test s.asker.now.question.graph.now c.args.c.0 c.args.d.0 _ true c.reaches-2.ensures c.if-reaches-2.true)

pub returns-else-reaches-2 : goal.returns-else-reaches-2
returns-else-reaches-2 c =
    let s = c.args.self.now in
    way_by (task_of s.asker.now) s.decided.now c.args.c.0 c.args.d.0 false false
    (reach_test (present_graph s.decided.now) c.args.c.0 c.args.d.0 _ false c.reaches.ensures c.if-reaches.false)
    (reach_test s.asker.now.question.graph.now c.args.c.0 c.args.d.0 _ false c.reaches-2.ensures c.if-reaches-2.false)
