-- Two of one category are marked exactly if they are above x.
use Rattle.std.proofs.Common.{subst, sym}
use Rattle.olap_check.{proofs.SplitLemmas.{split_more, some_category, two_above, above_two}, specs.Splitting.MarksAbove}
use Rattle.olap_base.proofs.GeneralLemmas.{refuted}
use Rattle.olap_check.proofs.parting.split_category.Goals as goal

pub categories-preserved : goal.categories-preserved
categories-preserved c =
    let i = c.args.instance.now in
    let a = subst (λ l. MarksAbove i c.args.x l) (sym c.deref.ensures.value) c.in_ok-seen.ensures in
    split_more i c.args.x c.categories.c c.categories.invariant
    (λ p. refuted c.has_two.result c.if-has_two.false c.has_two.ensures
    (above_two i c.args.x c.categories.c c.deref.result.now a p))

pub returns-then-has_two : goal.returns-then-has_two
returns-then-has_two c =
    let i = c.args.instance.now in
    let a = subst (λ l. MarksAbove i c.args.x l) (sym c.deref.ensures.value) c.in_ok-seen.ensures in
    record {
      splits = two_above i c.args.x c.categories.c c.deref.result.now a
          (c.has_two.ensures.0 c.if-has_two.true);
      before = c.categories.invariant;
    }

pub unreachable-requires : goal.unreachable-requires
unreachable-requires c =
    some_category c.args.instance.now c.args.categories c.categories.c c.args.x c.requires.bounded c.requires.x
    c.requires.strata c.categories-test.false c.requires.splits c.categories.invariant
