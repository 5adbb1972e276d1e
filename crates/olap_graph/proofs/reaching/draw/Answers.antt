use Rattle.std.proofs.{Common.{◌<◌, ◌∙◌, ap, sym, length, get_or, arith}, Math.ListN.length-set}
use Rattle.std.specs.FinSet.{insert}
use Rattle.olap_graph.proofs.{RowLemmas.{draw_more, ends_within, row_read}, TableLemmas.{edge_at-drawn, nowhere}}
use Rattle.olap_graph.specs.Tables.{drawn}
use Rattle.olap_graph.proofs.reaching.draw.Goals as goal

pub bounds-rows-child : goal.bounds-rows-child
bounds-rows-child c =
    let w = ends_within c.args.edges.now (length c.args.rows.now) c.edges.ends-index c.requires.within
    c.edges-test.true in
    let e = c.from-child.ensures in
    let n = c.edges.invariant.count in
    omega (arith, w.0)

pub with-requires : goal.with-requires
with-requires c =
    let w = ends_within c.args.edges.now (length c.args.rows.now) c.edges.ends-index c.requires.within
    c.edges-test.true in
    let n = c.requires.few in
    omega (arith, w.1)

pub bounds-rows-child-in-edges : goal.bounds-rows-child-in-edges
bounds-rows-child-in-edges c =
    let w = ends_within c.args.edges.now (length c.args.rows.now) c.edges.ends-index c.requires.within
    c.edges-test.true in
    let e = c.from-child.ensures in
    let n = c.edges.invariant.count in
    omega (arith, w.0)

pub edges-preserved : goal.edges-preserved
edges-preserved c =
    let w = ends_within ends (length c.args.rows.now) k c.requires.within c.edges-test.true in
    let d = (get_or ends k nowhere).parent.0 in
    let inside : i < length rows = omega (arith, w.0, c.edges.invariant.count, c.from-child.ensures) in
    record {
      count = length-set rows i c.with.result ∙ c.edges.invariant.count;
      drawn = draw_more (drawn ends) k i d rows with.result
          (edge_at-drawn ends k edges-test.true ∙ (λ z. record { child = sym from-child.ensures z; parent = d }))
          inside
          (with.ensures ∙ ap (λ s. insert s d) (row_read rows i index-rows-child.result inside index-rows-child.is))
          c.edges.invariant.drawn;
    }
  where
    open c use {
      args.edges.now as ends,
      edges-test,
      edges.ends-index as k,
      edges.rows,
      from-child,
      from-child.result as i,
      index-rows-child,
      with,
    }
