-- A member of the category repeats, or its search closes its marks.
use Rattle.std.proofs.Common.{sym, ◌∙◌, arith}
use Rattle.olap_check.proofs.SearchLemmas.{closed_start, before_more, first_at_limit, first_found}
use Rattle.olap_check.proofs.strata.first_in.Goals.{else-category-via-then-category+in_ok-repeats+else-branch, else-category-via-else-category}
use Rattle.olap_check.proofs.strata.first_in.Goals as goal

pub members-init : goal.members-init
members-init c = record {
  closed = closed_start c.args.instance.now c.args.category c.members-count.result c.in_ok-seen.seen.items
      (c.in_ok-seen.ensures.items_if_clones_equal (λ y e. e)) c.members-count.ensures.count;
  before = λ w h. absurd (omega (arith, h));
}

pub members-preserved : goal.members-preserved
members-preserved c =
    elim c.else-category.branch [
      | else-category-via-then-category+in_ok-repeats+else-branch w ↦
          let m = w.in_ok-repeats.ensures.closed w.if-branch.false in
          rw w.seen-is (record { closed = m.0; before = before_more i c.args.category c.members.x v.before (λ e. m.1) })
      | else-category-via-else-category w ↦
          rw w.seen-is (record {
            closed = v.closed;
            before = before_more i c.args.category c.members.x v.before
                (λ e. absurd (w.if-category.false (c.category.ensures ∙ e)));
          })
    ]
  where
    open c use {args.instance.now as i, members.invariant as v}

pub returns : goal.returns
returns c = first_at_limit c.args.instance.now c.args.category c.args.limit c.members.x c.members-test.false
    c.members.invariant.before

pub returns-then-branch : goal.returns-then-branch
returns-then-branch c =
    let i = c.args.instance.now in
    let m = c.in_ok-repeats.ensures.far c.if-branch.true in
    first_found i c.args.category c.args.limit c.members.x m.0 c.members-test.true m.1 m.2
    (sym c.category.ensures ∙ c.if-category.true) c.members.invariant.before
