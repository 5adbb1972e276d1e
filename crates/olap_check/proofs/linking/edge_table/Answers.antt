-- One pair more, and the whole table.
use Rattle.std.proofs.Common.{◌≡◌, ◌*◌, ◌+◌, sym, subst, arith}
use Rattle.olap_check.proofs.LinkingLemmas.{AreEdgesBefore, edges_start, edges_more, table_of}
use Rattle.olap_check.proofs.linking.edge_table.Goals as goal

pub pairs-init : goal.pairs-init
pairs-init c =
    subst (λ l. AreEdgesBefore c.args.graph.now c.args.categories 0 l) (sym c.new-edges.ensures.items)
    (edges_start c.args.graph.now c.args.categories)

pub pairs-preserved : goal.pairs-preserved
pairs-preserved c =
    subst (λ l. AreEdgesBefore c.args.graph.now c.args.categories (c.pairs.pair + 1) l) (sym c.in_ok-push.ensures.items)
    (edges_more c.pairs.invariant c.is_some.result _ c.is_some.ensures
    (rw c.from-width.ensures at c.edge-edge.ensures.has))

pub returns : goal.returns
returns c =
    let n = c.args.categories in
    let h = rw c.from-width.ensures at c.pairs.auto.pair-end in
    let t = rw c.from-width.ensures at c.pairs-test.false in
    let e : c.pairs.pair ≡ n * n = omega (arith, h, t) in
    table_of c.args.graph.now n c.pairs.edges.items
    (subst (λ k. AreEdgesBefore c.args.graph.now n k c.pairs.edges.items) e c.pairs.invariant)
