-- A parent is far below y, or none is.
use Rattle.std.proofs.Common.{refl}
use Rattle.olap_legal.proofs.ParentLemmas.{all_read, parent_at, parent_member}
use Rattle.olap_check.proofs.PassingLemmas.{none_below_more, none_passed, passed_by}
use Rattle.olap_base.proofs.GeneralLemmas.{refuted}
use Rattle.olap_check.proofs.passing.is_passed.Goals as goal

pub is_far_below-requires-clause-z : goal.is_far_below-requires-clause-z
is_far_below-requires-clause-z c =
    let at = parent_at i c.args.x ids.result.now c.parents.z-index ids.ensures.list ids.ensures.places
    c.parents-test.true in
    parent_member at
  where
    open c use {parents-z-items as ids, args.instance.now as i}

pub parents-preserved : goal.parents-preserved
parents-preserved c =
    let at = parent_at i c.args.x ids.result.now c.parents.z-index ids.ensures.list ids.ensures.places
    c.parents-test.true in
    none_below_more at c.args.y c.parents.invariant (refuted far.result c.if-is_far_below.false far.ensures)
  where
    open c use {parents-z-items as ids, args.instance.now as i, is_far_below as far}

pub returns-then-is_far_below : goal.returns-then-is_far_below
returns-then-is_far_below c =
    let at = parent_at i c.args.x ids.result.now c.parents.z-index ids.ensures.list ids.ensures.places
    c.parents-test.true in
    (λ _. passed_by at c.args.y (c.is_far_below.ensures.0 c.if-is_far_below.true), λ _. refl)
  where
    open c use {parents-z-items as ids, args.instance.now as i}

pub returns : goal.returns
returns c =
    let all = all_read i c.args.x c.parents.z-index ids.result.now ids.ensures.list c.parents-test.false in
    none_passed i c.args.x c.args.y c.parents.z-index all c.parents.invariant
  where
    open c use {parents-z-items as ids, args.instance.now as i}
