-- A parent is linked, or is the first that isn't.
use Rattle.olap_legal.proofs.ParentLemmas.{all_read, parent_at, parent_member}
use Rattle.olap_check.proofs.LinkingLemmas.{linked_more, first_unlinked_of, linked_at}
use Rattle.olap_check.proofs.linking.unlinked_of.Goals as goal

pub category-requires : goal.category-requires
category-requires c =
    parent_member
    (parent_at i c.args.x ids.result.now c.parents.k ids.ensures.list ids.ensures.places c.parents-test.true)
  where
    open c use {parents-y-items as ids, args.instance.now as i}

pub parents-preserved : goal.parents-preserved
parents-preserved c =
    let at = parent_at i c.args.x ids.result.now c.parents.k ids.ensures.list ids.ensures.places c.parents-test.true in
    linked_more at c.args.categories c.args.edges.now c.parents.invariant c.category-category.result.0 d
    c.category-category.ensures c.category.ensures
    linked.result linked.ensures c.if-not-is_linked.false
  where
    open c use {parents-y-items as ids, args.instance.now as i, category.result.0 as d, is_linked as linked}

pub returns-then-not-is_linked-clause-some : goal.returns-then-not-is_linked-clause-some
returns-then-not-is_linked-clause-some c =
    let at = parent_at i c.args.x ids.result.now c.parents.k ids.ensures.list ids.ensures.places c.parents-test.true in
    first_unlinked_of at c.args.categories c.args.edges.now c.parents.invariant c.category-category.result.0 d
    c.category-category.ensures c.category.ensures
    linked.result linked.ensures c.if-not-is_linked.true
  where
    open c use {parents-y-items as ids, args.instance.now as i, category.result.0 as d, is_linked as linked}

pub returns-clause-none : goal.returns-clause-none
returns-clause-none c = λ q.
    let all = all_read i c.args.x c.parents.k ids.result.now ids.ensures.list c.parents-test.false in
    linked_at i c.args.categories c.args.edges.now c.args.x c.parents.k all c.parents.invariant
  where
    open c use {parents-y-items as ids, args.instance.now as i}
