-- A parent is of the category, marked already, or marked now.
use Rattle.std.proofs.Common.{◌≡◌, length, sym, ◌∙◌, arith}
use Rattle.olap_legal.proofs.MarkingLemmas.{marking_none, marking_pushed, marking_skipped, mark_inside, marked_all, hit_one, parent_hits}
use Rattle.olap_legal.proofs.ParentLemmas.{parent_at, parent_member}
use Rattle.olap_legal.proofs.marking.mark.Goals.{then-not-index+in_ok-push, else-not-index}
use Rattle.olap_legal.proofs.marking.mark.Goals as goal

pub parents-init : goal.parents-init
parents-init c = marking_none c.args.instance.now c.args.category c.args.seen.now.items c.args.list.now.items

pub category-requires : goal.category-requires
category-requires c =
    let ids = c.parents-p-items in
    parent_member
    (parent_at c.args.instance.now c.args.z _ _ ids.ensures.list ids.ensures.places c.parents-test.true)

pub index-requires : goal.index-requires
index-requires c =
    let at = parent_at i c.args.z _ _ ids.ensures.list ids.ensures.places c.parents-test.true in
    let o = c.args.seen.now.ok in
    let size : length c.args.seen.now.items ≡ length i = omega (arith, c.requires.seen) in
    let now = c.parents.seen.ok in
    omega (arith, mark_inside at c.parents.invariant size)
  where
    open c use {parents-p-items as ids, args.instance.now as i}

pub index_mut-requires : goal.index_mut-requires
index_mut-requires c =
    let at = parent_at i c.args.z _ _ ids.ensures.list ids.ensures.places c.parents-test.true in
    let o = c.args.seen.now.ok in
    let size : length c.args.seen.now.items ≡ length i = omega (arith, c.requires.seen) in
    let now = c.parents.seen.ok in
    omega (arith, mark_inside at c.parents.invariant size)
  where
    open c use {parents-p-items as ids, args.instance.now as i}

pub returns-then-category : goal.returns-then-category
returns-then-category c =
    let at = parent_at i c.args.z _ _ ids.ensures.list ids.ensures.places c.parents-test.true in
    hit_one (parent_hits c.args.category at (sym c.category.ensures ∙ c.if-category.true))
  where
    open c use {parents-p-items as ids, args.instance.now as i}

pub parents-preserved : goal.parents-preserved
parents-preserved c =
    let at = parent_at c.args.instance.now c.args.z _ _ ids.ensures.list ids.ensures.places c.parents-test.true in
    let o = c.args.seen.now.ok in
    let size : length c.args.seen.now.items ≡ length c.args.instance.now = omega (arith, c.requires.seen) in
    elim c.if-not-index.branch [
      | then-not-index+in_ok-push w ↦
          rw (w.seen-is, w.list-is, w.in_ok-push.ensures.items)
          (marking_pushed at v size category c.category.ensures c.if-category.false c.index.result.now c.index.ensures
          w.if-not-index.true)
      | else-not-index w ↦
          rw (w.seen-is, w.list-is)
          (marking_skipped at v size category c.category.ensures c.if-category.false c.index.result.now c.index.ensures
          w.if-not-index.false)
    ]
  where
    open c use {parents-p-items as ids, parents.invariant as v, category.result.0 as category}

pub returns : goal.returns
returns c =
    let ids = c.parents-p-items in
    marked_all c.args.z ids.result.now ids.ensures.list c.parents-test.false c.parents.invariant
