-- A parent's place is free, has it, or has another member.
use Rattle.std.proofs.Common.{◌≡◌, length, ◌∙◌, arith}
use Rattle.olap_legal.proofs.ParentLemmas.{parent_at, parent_member}
use Rattle.olap_legal.proofs.RisingLemmas.{visit_none, visit_room, visit_pushed, visit_skipped, visit_met, visited_all, met_one}
use Rattle.olap_legal.proofs.rising.visit.Goals.{then-q+in_ok-push, else-q+else-q-p}
use Rattle.olap_legal.proofs.rising.visit.Goals as goal

pub parents-init : goal.parents-init
parents-init c = visit_none c.args.instance.now c.args.row.now.items c.args.list.now.items c.requires.own

pub category-requires : goal.category-requires
category-requires c =
    let ids = c.parents-p-items in
    parent_member
    (parent_at c.args.instance.now c.args.z _ _ ids.ensures.list ids.ensures.places c.parents-test.true)

pub index-q-requires : goal.index-q-requires
index-q-requires c =
    let ids = c.parents-p-items in
    let at = parent_at c.args.instance.now c.args.z _ _ ids.ensures.list ids.ensures.places c.parents-test.true in
    let size : length c.args.row.now.items ≡ c.args.row.now.len = omega (arith, c.args.row.now.ok) in
    let room = visit_room at c.requires.bounded c.parents.invariant size _ (c.from-d.ensures ∙ c.category.ensures) in
    omega (arith, c.parents.row.ok, room)

pub index_mut-requires : goal.index_mut-requires
index_mut-requires c =
    let ids = c.parents-p-items in
    let at = parent_at c.args.instance.now c.args.z _ _ ids.ensures.list ids.ensures.places c.parents-test.true in
    let size : length c.args.row.now.items ≡ c.args.row.now.len = omega (arith, c.args.row.now.ok) in
    let room = visit_room at c.requires.bounded c.parents.invariant size _ (c.from-d.ensures ∙ c.category.ensures) in
    omega (arith, c.parents.row.ok, room)

pub parents-preserved : goal.parents-preserved
parents-preserved c =
    let at = parent_at i c.args.z _ _ ids.ensures.list ids.ensures.places c.parents-test.true in
    let size : length c.args.row.now.items ≡ c.args.row.now.len = omega (arith, c.args.row.now.ok) in
    let d_is = c.from-d.ensures ∙ c.category.ensures in
    elim c.if-q.branch [
      | then-q+in_ok-push w ↦
          rw (w.row-is, w.list-is, w.in_ok-push.ensures.items)
          (visit_pushed at c.requires.bounded v size c.from-d.result c.index-q.result.now d_is c.index-q.ensures
          w.if-q.true)
      | else-q+else-q-p w ↦
          rw (w.row-is, w.list-is)
          (visit_skipped at c.requires.bounded v size c.from-d.result c.index-q.result.now d_is c.index-q.ensures
          w.if-q-p.false)
    ]
  where
    open c use {parents-p-items as ids, args.instance.now as i, parents.invariant as v}

pub returns-then-q-p : goal.returns-then-q-p
returns-then-q-p c =
    let at = parent_at i c.args.z _ _ ids.ensures.list ids.ensures.places c.parents-test.true in
    let size : length c.args.row.now.items ≡ c.args.row.now.len = omega (arith, c.args.row.now.ok) in
    let d_is = c.from-d.ensures ∙ c.category.ensures in
    let met = visit_met at c.requires.bounded c.parents.invariant size c.from-d.result q d_is in
    met_one (met c.index-q.ensures c.if-q.false c.if-q-p.true)
  where
    open c use {parents-p-items as ids, args.instance.now as i, index-q.result.now as q}

pub returns : goal.returns
returns c =
    let ids = c.parents-p-items in
    visited_all c.args.z ids.result.now ids.ensures.list c.parents-test.false c.parents.invariant
