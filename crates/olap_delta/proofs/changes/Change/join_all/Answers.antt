-- One category more, and all of them.
use Rattle.std.proofs.{Common.{◌<◌, length, ap, arith}, lemmas.List.length-map}
use Rattle.olap_delta.proofs.JoinedTableLemmas.{so_far_all, so_far_next}
use Rattle.olap_delta.proofs.changes.Change.join_all.Goals as goal

pub categories-preserved : goal.categories-preserved
categories-preserved c =
    let n = length-map c.categories-k-end.result.now (λ d. d.0) in
    let e = ap length c.categories-k-end.ensures.categories in
    let h : c.categories.k < length c.args.table.now.categories = let t = c.categories-test.true in omega arith in
    so_far_next c.args.self c.args.lots.now c.categories.k c.args.table.now c.categories.table c.join_in.new.table
    c.categories.invariant h c.categories-k-end.ensures.differ c.join_in.ensures.instance c.join_in.ensures.categories
    c.join_in.ensures.storable (c.join_in.ensures.once c.if-not-join_in.false)
    (c.join_in.ensures.joined c.if-not-join_in.false)

pub returns-clause-joined : goal.returns-clause-joined
returns-clause-joined c = grind (arith, length-map, so_far_all)
