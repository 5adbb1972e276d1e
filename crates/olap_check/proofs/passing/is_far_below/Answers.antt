-- A member is far below another exactly if the table has that other for it.
use Rattle.std.proofs.Common.{subst}
use Rattle.olap_base.specs.Instance.{IsMemberOf, Reaches}
use Rattle.olap_check.proofs.PassingLemmas.{far_same, far_some}
use Rattle.olap_check.proofs.passing.is_far_below.Goals as goal

pub returns-then-z-y : goal.returns-then-z-y
returns-then-z-y c = far_same c.args.instance.now c.args.z c.args.y c.requires.strata c.if-z-y.true

pub returns-in-Some : goal.returns-in-Some
returns-in-Some c =
    let i = c.args.instance.now in
    let m = subst (λ d. IsMemberOf i d c.in-Some.a × Reaches i c.args.z c.in-Some.a) c.category.ensures
    c.in-Some.ensures.some in
    far_some i c.args.categories c.args.z c.args.y c.in-Some.a c.args.table.now c.requires.bounded c.requires.table
    c.requires.z c.if-z-y.false m
