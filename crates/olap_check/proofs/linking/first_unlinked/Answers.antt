-- One member more.
use Rattle.std.proofs.Common.{refl, arith}
use Rattle.olap_check.proofs.LinkingLemmas.{linked_at_more}
use Rattle.olap_check.proofs.linking.first_unlinked.Goals as goal

pub members-preserved : goal.members-preserved
members-preserved c =
    linked_at_more c.args.instance.now c.args.categories c.args.edges.now c.members.x c.members.invariant
    (c.in_default.ensures.none refl)

pub returns-clause-none : goal.returns-clause-none
returns-clause-none c = λ q x h.
    let count = c.members-x-end.ensures.count in
    c.members.invariant x (omega (arith, h, count, c.members-test.false))
