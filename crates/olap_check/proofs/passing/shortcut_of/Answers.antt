-- A parent is the first that is passed, or none is.
use Rattle.olap_legal.proofs.ParentLemmas.{all_read, parent_at, parent_member}
use Rattle.olap_check.proofs.PassingLemmas.{first_passed, passed_more, none_at}
use Rattle.olap_base.proofs.GeneralLemmas.{refuted}
use Rattle.olap_check.proofs.passing.shortcut_of.Goals as goal

pub is_passed-requires-clause-y : goal.is_passed-requires-clause-y
is_passed-requires-clause-y c =
    let at = parent_at i c.args.x ids.result.now c.parents.k ids.ensures.list ids.ensures.places c.parents-test.true in
    parent_member at
  where
    open c use {parents-y-items as ids, args.instance.now as i}

pub parents-preserved : goal.parents-preserved
parents-preserved c =
    let at = parent_at i c.args.x ids.result.now c.parents.k ids.ensures.list ids.ensures.places c.parents-test.true in
    passed_more at c.parents.invariant (refuted passed.result c.if-is_passed.false passed.ensures)
  where
    open c use {parents-y-items as ids, args.instance.now as i, is_passed as passed}

pub returns-then-is_passed-clause-some : goal.returns-then-is_passed-clause-some
returns-then-is_passed-clause-some c =
    let at = parent_at i c.args.x ids.result.now c.parents.k ids.ensures.list ids.ensures.places c.parents-test.true in
    first_passed at (c.is_passed.ensures.0 c.if-is_passed.true) c.parents.invariant
  where
    open c use {parents-y-items as ids, args.instance.now as i}

pub returns-clause-none : goal.returns-clause-none
returns-clause-none c = λ q.
    let all = all_read i c.args.x c.parents.k ids.result.now ids.ensures.list c.parents-test.false in
    none_at i c.args.x c.parents.k all c.parents.invariant
  where
    open c use {parents-y-items as ids, args.instance.now as i}
