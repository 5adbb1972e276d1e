-- One member more.
use Rattle.std.proofs.Common.{refl, arith}
use Rattle.olap_check.proofs.PassingLemmas.{none_more}
use Rattle.olap_check.proofs.passing.first_shortcut.Goals as goal

pub members-preserved : goal.members-preserved
members-preserved c = none_more c.args.instance.now c.members.x c.members.invariant (c.in_default.ensures.none refl)

pub returns-clause-none : goal.returns-clause-none
returns-clause-none c = λ q x h.
    let count = c.members-x-end.ensures.count in
    c.members.invariant x (omega (arith, h, count, c.members-test.false))
