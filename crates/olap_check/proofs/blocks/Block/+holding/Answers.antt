-- A connective is an operation on the sets of its parts, and `one(..)` is counted from its last part on.
use Rattle.std.proofs.{Common.{arith, rules, w64}, lemmas.Int.to_z-of_z}
use Rattle.olap_ast.specs.Trees.{terms_of}
use Rattle.olap_bits.specs.Sets.{members}
use Rattle.olap_check.proofs.BlockLemmas.{counted_all, counted_more, counted_none, has_all, select_all, select_and, select_iff, select_implies, select_none, select_not, select_or, select_xor}
use Rattle.olap_check.proofs.WayLemmas.{reach_selected}
use mir.Val.{SFits}
use Rattle.olap_check.proofs.blocks.Block.+holding.Goals as goal

pub holding-returns-in-True-clause-places : goal.holding-returns-in-True-clause-places
holding-returns-in-True-clause-places t c =
    rw c.in-True.is (select_all _ _ (has_all c.args.self.now.sound) (λ k. tt))

pub holding-returns-in-False-clause-places : goal.holding-returns-in-False-clause-places
holding-returns-in-False-clause-places t c =
    rw (c.in-False.is, c.empty.ensures) (select_none _ (λ k h. h))

pub holding-returns-in-Reach-clause-places : goal.holding-returns-in-Reach-clause-places
holding-returns-in-Reach-clause-places t c =
    let b = c.args.self.now in
    rw c.in-Reach.is (reach_selected b.instance.now b.root.0 b.start b.part.now b.sound.is_part c.in-Reach.d.0 _
    c.look_up.ensures.places)

pub holding-returns-in-Path-clause-places : goal.holding-returns-in-Path-clause-places
holding-returns-in-Path-clause-places t c =
    rw (c.in-Path.is, ← c.items.ensures) c.along.ensures.places

pub holding-returns-in-Via-clause-places : goal.holding-returns-in-Via-clause-places
holding-returns-in-Via-clause-places t c =
    rw c.in-Via.is c.look_up-in-Via.ensures.places

pub holding-returns-in-Equals-clause-places : goal.holding-returns-in-Equals-clause-places
holding-returns-in-Equals-clause-places t c =
    rw c.in-Equals.is c.look_up-in-Equals.ensures.places

pub holding-returns-in-Compare-clause-places : goal.holding-returns-in-Compare-clause-places
holding-returns-in-Compare-clause-places t c =
    let fits : SFits w64 c.in-Compare.n = search rules in
    rw c.in-Compare.is (rw (to_z-of_z w64 c.in-Compare.n fits) at c.look_up-in-Compare.ensures.places)

pub holding-returns-in-Not-clause-places : goal.holding-returns-in-Not-clause-places
holding-returns-in-Not-clause-places t c =
    rw (c.in-Not.is, c.minus.ensures)
    (select_not _ _ (has_all c.args.self.now.sound) _ (rw c.deref.ensures at c.holding.ensures.places))

pub holding-returns-in-And-clause-places : goal.holding-returns-in-And-clause-places
holding-returns-in-And-clause-places t c =
    rw (c.in-And.is, c.meet.ensures)
    (select_and _ _ _ (rw c.deref-in-And.ensures at c.holding-in-And.ensures.places)
    (rw c.deref-in-And-2.ensures at c.holding-in-And-2.ensures.places))

pub holding-returns-in-Or-clause-places : goal.holding-returns-in-Or-clause-places
holding-returns-in-Or-clause-places t c =
    rw (c.in-Or.is, c.union.ensures)
    (select_or _ _ _ (rw c.deref-in-Or.ensures at c.holding-in-Or.ensures.places)
    (rw c.deref-in-Or-2.ensures at c.holding-in-Or-2.ensures.places))

pub holding-returns-in-Implies-clause-places : goal.holding-returns-in-Implies-clause-places
holding-returns-in-Implies-clause-places t c =
    rw (c.in-Implies.is, c.union-in-Implies.ensures, c.minus-in-Implies.ensures)
    (select_implies _ _ (has_all c.args.self.now.sound) _ _
    (rw c.deref-in-Implies.ensures at c.holding-in-Implies.ensures.places)
    (rw c.deref-in-Implies-2.ensures at c.holding-in-Implies-2.ensures.places))

pub holding-returns-in-Iff-clause-places : goal.holding-returns-in-Iff-clause-places
holding-returns-in-Iff-clause-places t c =
    rw (c.in-Iff.is, c.minus-in-Iff.ensures, c.differing.ensures)
    (select_iff _ _ (has_all c.args.self.now.sound) _ _ (rw c.deref-in-Iff.ensures at c.holding-in-Iff.ensures.places)
    (rw c.deref-in-Iff-2.ensures at c.holding-in-Iff-2.ensures.places))

pub holding-returns-in-Xor-clause-places : goal.holding-returns-in-Xor-clause-places
holding-returns-in-Xor-clause-places t c =
    rw (c.in-Xor.is, c.differing-in-Xor.ensures)
    (select_xor _ _ _ (rw c.deref-in-Xor.ensures at c.holding-in-Xor.ensures.places)
    (rw c.deref-in-Xor-2.ensures at c.holding-in-Xor-2.ensures.places))

pub counted-parts-init : goal.counted-parts-init
counted-parts-init t c =
    let b = c.args.self.now in
    let none = counted_none b.instance.now b.part.now (terms_of c.args.parts.now) (members b.all) (has_all b.sound) in
    (omega arith, c.requires, rw c.empty.ensures none)

pub counted-parts-preserved : goal.counted-parts-preserved
counted-parts-preserved t c =
    let b = c.args.self.now in
    let fewer = rw c.in-More.is at c.parts.invariant.0 in
    let more = counted_more b.instance.now b.part.now (terms_of c.args.parts.now) _ _ (members c.parts.counted.none)
    (members c.parts.counted.one) _ (rw c.in-More.is at c.parts.invariant.2)
    (rw c.deref.ensures at c.holding.ensures.places) c.with-counted.ensures.none c.with-counted.ensures.one in
    (rw c.deref-left.ensures (omega (arith, fewer)), c.holding.ensures.seen, rw c.deref-left.ensures more)

pub counted-returns-clause-none : goal.counted-returns-clause-none
counted-returns-clause-none t c =
    (counted_all _ _ _ _ _ (rw c.in_default.is at c.parts.invariant.2)).0

pub counted-returns-clause-one : goal.counted-returns-clause-one
counted-returns-clause-one t c =
    (counted_all _ _ _ _ _ (rw c.in_default.is at c.parts.invariant.2)).1
