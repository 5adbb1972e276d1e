-- A constraint is met, or is the first that isn't.
use Rattle.std.proofs.Common.{refl}
use Rattle.olap_check.proofs.MeetingLemmas.{met_more, first_violated_of, all_met}
use Rattle.olap_check.proofs.meeting.first_violated.Goals as goal

pub constraints-preserved : goal.constraints-preserved
constraints-preserved c =
    let item = c.index-constraints-k in (
      c.in_default.ensures.seen,
      met_more c.args.instance.now c.args.constraints.now c.constraints.k item.result c.constraints-test.true item.is
          c.constraints.invariant.1 (c.in_default.ensures.none refl),
    )

pub returns-in-Some-clause-some : goal.returns-in-Some-clause-some
returns-in-Some-clause-some c =
    let item = c.index-constraints-k in
    first_violated_of c.args.instance.now c.args.constraints.now c.constraints.k item.result c.constraints-test.true
    item.is
    c.in-Some.x c.constraints.invariant.1 c.in-Some.ensures.some

pub returns-clause-none : goal.returns-clause-none
returns-clause-none c = λ e.
    all_met c.args.instance.now c.args.constraints.now c.constraints.k c.constraints-test.false
    c.constraints.invariant.1
