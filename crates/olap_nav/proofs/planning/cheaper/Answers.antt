use Rattle.std.proofs.Common.{subst}
use Rattle.olap_nav.{proofs.ChoiceLemmas.{best_is, first_is, next_is}, specs.Choices.IsCheapest}
use Rattle.olap_nav.proofs.planning.cheaper.Goals as goal

pub returns-in_default : goal.returns-in_default
returns-in_default c = λ views bits none here rows.
    first_is views bits c.args.next here rows (subst (IsCheapest views bits c.args.next.mask) c.in_default.is none)

pub returns-then-next-plan : goal.returns-then-next-plan
returns-then-next-plan c = λ views bits cheapest here rows.
    next_is views bits c.args.next here rows c.in-Some.plan
    (subst (IsCheapest views bits c.args.next.mask) c.in-Some.is cheapest) c.if-next-plan.true

pub returns-else-next-plan : goal.returns-else-next-plan
returns-else-next-plan c = λ views bits cheapest here rows.
    best_is views bits c.args.next here rows c.in-Some.plan
    (subst (IsCheapest views bits c.args.next.mask) c.in-Some.is cheapest) c.if-next-plan.false
