use Rattle.std.proofs.Common.{◌<◌, length, arith}
use Rattle.olap_dimsat.{proofs.TrackingLemmas.{at_decision, edge_inside, read_next}, specs.Asking.task_of}
use Rattle.olap_dimsat.proofs.tracking.standing.Goals as goal

pub is_read-requires-clause-edge : goal.is_read-requires-clause-edge
is_read-requires-clause-edge c =
    let d = c.args.decided.now in
    let k : c.decisions.k < length d.decisions =
    let t = c.decisions-test.true in let n = c.mark-count.ensures.count in omega arith in
    edge_inside (task_of c.args.a.now) d c.requires.of c.decisions-decisions.ensures.decisions
    c.decisions-decisions.result.now c.decisions-decisions.ensures.list c.decisions.k c.from.result _ c.from.ensures k

pub decisions-preserved : goal.decisions-preserved
decisions-preserved c =
    let d = c.args.decided.now in
    let k : c.decisions.k < length d.decisions =
    let t = c.decisions-test.true in let n = c.mark-count.ensures.count in omega arith in
    read_next (task_of c.args.a.now) c.args.trail.now d.decisions c.decisions.k c.decisions.invariant _
    (λ z. at_decision c.decisions-decisions.result.now d.decisions c.decisions.k c.from.result _ z
    c.decisions-decisions.ensures.list c.from.ensures k) (c.is_read.ensures c.if-not-is_read.false)
