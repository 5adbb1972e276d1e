use Rattle.std.proofs.Common.{refl}
use Rattle.olap_graph.{proofs.TableLemmas.has_edge_at, specs.Lookups.edge_at}
use Rattle.olap_proof.proofs.LineLemmas.{edge_spelled, edge_unspelled}
use Rattle.olap_proof.proofs.lines.edge.Goals as goal

pub returns-in_err-child-clause-none : goal.returns-in_err-child-clause-none
returns-in_err-child-clause-none c = λ u e l s.
    let g = c.args.graph.now in
    let ends = c.categories-graph.ensures.hierarchy.categories (edge_at g e).child (edge_at g e).parent
    (has_edge_at g e l) in
    c.in_err-child.ensures.none refl (edge_at g e).child (edge_at g e).parent ends.0 ends.1 s

pub returns-clause-some : goal.returns-clause-some
returns-clause-some c = edge_spelled c.args.graph.now c.in_ok-child.child.0 c.in_ok-child.parent.0 c.args.bytes.now
    c.edge.result c.edge.ensures.place c.in_ok-child.ensures.some.2

pub returns-clause-none : goal.returns-clause-none
returns-clause-none c = edge_unspelled c.args.graph.now c.categories-graph.ensures.hierarchy c.in_ok-child.child.0
    c.in_ok-child.parent.0 c.args.bytes.now c.edge.result c.edge.ensures.has c.in_ok-child.ensures.some.0
    c.in_ok-child.ensures.some.1 c.in_ok-child.ensures.some.2
