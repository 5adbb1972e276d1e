-- Each chosen edge has its members, its parent is new, and the draft gets it.
use Rattle.std.proofs.Common.{◌<◌, length, refl, ◌∙◌, arith}
use Rattle.olap_cex.proofs.ParentLemmas.{child_inside, edge_skipped, parent_added, parent_inside, parent_new, some_child}
use Rattle.olap_cex.proofs.thawing.add_parents.Goals.{then-edges-from+in-Some+in_ok-add_parent, else-edges-from}
use Rattle.olap_cex.proofs.thawing.add_parents.Goals as goal

pub unreachable-requires : goal.unreachable-requires
unreachable-requires c =
    some_child r.found r.hierarchy places r.places k (omega (arith, c.edges-e-end.ensures.count))
    (rw (c.from.ensures, c.items-edges.ensures) at c.if-edges-from.true) c.ends.ensures.edge c.ends.ensures.child
    c.ends.ensures.parent c.from-then-edges-from.ensures refl c.edges.invariant c.in_default.not-Some
  where
    open c use {requires as r, args.places.now as places, edges.e as k}

pub add_parent-requires-clause-child : goal.add_parent-requires-clause-child
add_parent-requires-clause-child c =
    child_inside r.found r.hierarchy places r.places k (omega (arith, c.edges-e-end.ensures.count))
    (rw (c.from.ensures, c.items-edges.ensures) at c.if-edges-from.true) c.ends.ensures.edge c.ends.ensures.child
    c.ends.ensures.parent c.from-then-edges-from.ensures c.from-then-edges-from-2.ensures c.edges.invariant
    c.in-Some.member c.in-Some.is
  where
    open c use {requires as r, args.places.now as places, edges.e as k}

pub add_parent-requires-clause-parent : goal.add_parent-requires-clause-parent
add_parent-requires-clause-parent c =
    parent_inside r.found r.hierarchy places r.places k (omega (arith, c.edges-e-end.ensures.count))
    (rw (c.from.ensures, c.items-edges.ensures) at c.if-edges-from.true) c.ends.ensures.edge c.ends.ensures.child
    c.ends.ensures.parent c.from-then-edges-from.ensures c.from-then-edges-from-2.ensures c.edges.invariant
  where
    open c use {requires as r, args.places.now as places, edges.e as k}

pub add_parent-requires-clause-new : goal.add_parent-requires-clause-new
add_parent-requires-clause-new c =
    parent_new r.found r.hierarchy places r.places k (omega (arith, c.edges-e-end.ensures.count))
    (rw (c.from.ensures, c.items-edges.ensures) at c.if-edges-from.true) c.ends.ensures.edge c.ends.ensures.child
    c.ends.ensures.parent c.from-then-edges-from.ensures c.from-then-edges-from-2.ensures c.edges.invariant
    c.in-Some.member c.in-Some.is
  where
    open c use {requires as r, args.places.now as places, edges.e as k}

pub edges-preserved : goal.edges-preserved
edges-preserved c =
    let inside : k < length c.args.graph.now.edges = omega (arith, c.edges-e-end.ensures.count) in
    elim c.if-edges-from.branch [
      | then-edges-from+in-Some+in_ok-add_parent w ↦ parent_added r.found r.hierarchy places r.places k inside
          (rw (c.from.ensures, c.items-edges.ensures) at w.if-edges-from.true) w.ends.ensures.edge w.ends.ensures.child
          w.ends.ensures.parent w.from-then-edges-from.ensures w.from-then-edges-from-2.ensures c.edges.invariant
          w.in-Some.member w.in-Some.is (w.builder-is ∙ w.in_ok-add_parent.ensures)
      | else-edges-from w ↦ edge_skipped c.args.graph.now c.args.found.now k inside
          (rw (c.from.ensures, c.items-edges.ensures) at w.if-edges-from.false) c.edges.invariant w.builder-is
    ]
  where
    open c use {requires as r, args.places.now as places, edges.e as k}
