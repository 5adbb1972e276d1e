-- The tables of no edges.
use Rattle.std.{proofs.Common.{◌+◌, ◌∙◌, List, map, ap, arith}, specs.Prelude.vec_capacity}
use Rattle.olap_bits.specs.declared.sets.CatSet.{CatSet}
use Rattle.olap_graph.specs.Rows.{row}
use Rattle.olap_trail.{proofs.TakingLemmas.tables_none, specs.Drawing.edge_of}
use Rattle.olap_trail.proofs.drawing.Drawn.new.Goals as goal

pub invariant_of-result : goal.invariant_of-result
invariant_of-result g c =
    rw (ap (map edge_of) c.in_ok-with_capacity.ensures.items) (tables_none _ (vec_capacity f.rows) c.from-count.result
    (c.from-stages.result + 1) c.empty-nothing.result f.rows.items c.in_ok-vec.field-0.items
    c.in_ok-vec-2.field-0.items c.requires.width (omega (arith, c.from-count.ensures, c.requires.wide))
    c.empty-nothing.ensures (omega arith)
    (omega (arith, c.in_ok-with_capacity.ensures.exact, c.from.ensures, c.from-stages.ensures))
    (omega (arith, c.in_ok-rows.ensures.capacity, c.fill.ensures.capacity)) c.fill.ensures.enough
    (λ i. c.fill.ensures.same i ∙ ap (λ (xs : List (CatSet g.row.W)). row xs i) c.in_ok-rows.ensures.items)
    (c.in_ok-vec.ensures.items_if_clones_equal (λ y e. e)) (c.in_ok-vec-2.ensures.items_if_clones_equal (λ y e. e)))
  where
    open c use {fill.new as f}
