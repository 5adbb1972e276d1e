use Rattle.std.proofs.Common.{refl, sym}
use Rattle.olap_proof.proofs.{DrawnLemmas.drawn_edge, SeenLemmas.{decisions_within, present_seen}}
use Rattle.olap_proof.proofs.drawn.present_edge.Goals as goal

pub returns-in_err-first-clause-none : goal.returns-in_err-first-clause-none
returns-in_err-first-clause-none c = λ n x y i.
    let list = c.decisions-decisions.ensures.list in
    let seen = present_seen c.args.place.now.decided c.decisions-decisions.result.now x y (sym list) i in
    c.in_err-first.ensures.none refl seen.0 seen.1 seen.2

pub returns-clause-edge : goal.returns-clause-edge
returns-clause-edge c = decisions_within c.args.place.now.decided c.decisions-decisions.result.now
    c.decisions-decisions.ensures.decisions c.decisions-decisions.ensures.list c.in_ok-first.first
    c.in_ok-first.ensures.some.0

pub returns-clause-some : goal.returns-clause-some
returns-clause-some c = drawn_edge c.args.place.now.decided c.decisions-decisions.result.now
    (sym c.decisions-decisions.ensures.list) c.in_ok-first.first c.in_ok-first.ensures.some.0
    c.in_ok-first.ensures.some.1
