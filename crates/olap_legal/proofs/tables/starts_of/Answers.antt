-- A row more.
use Rattle.std.proofs.Common.{◌≡◌, ◌+◌, ◌≤◌, length, ap, sym, subst, ◌∙◌, arith}
use Rattle.olap_legal.{proofs.LayingLemmas.{starts_more, starts_none}, specs.Laying.AreStarts, specs.Slots.count_of}
use Rattle.olap_legal.proofs.tables.starts_of.Goals as goal

pub members-init : goal.members-init
members-init c = starts_none c.args.instance.now c.args.slots.now c.in_ok-starts.ensures.items

pub members-preserved : goal.members-preserved
members-preserved c =
    let k = c.from-end.result in
    let is = c.from-end.ensures ∙ c.count.ensures.count ∙ ap (count_of c.args.slots.now) c.category-category.ensures in
    let few : k ≤ 256 = omega (arith, c.from-end.ensures, c.count.ensures.few, c.requires.few) in
    subst (λ l. AreStarts c.args.instance.now c.args.slots.now (c.members.x + 1) l (c.members.end + k))
    (sym c.in_ok-push.ensures.items) (starts_more k c.members.invariant is few)

pub returns : goal.returns
returns c =
    let i = c.args.instance.now in
    let count = c.members-x-end.ensures.count in
    let all : c.members.x ≡ length i = omega (arith, count, c.members-test.false, c.members.auto.x-end) in
    subst (λ k. AreStarts i c.args.slots.now k c.members.starts.items c.members.end) all c.members.invariant
