use Rattle.std.proofs.{Common.{length, ap, arith}, lemmas.List.length-map}
use Rattle.olap_base.specs.Graph.{Graph}
use Rattle.olap_graph.proofs.{EdgeLemmas.{edge_here, out_here}, PlaceLemmas.joins-found, TableLemmas.out_within}
use Rattle.olap_graph.specs.Listing.{edge_of}
use Rattle.olap_graph.proofs.graphs.Graph.edge.Goals as goal

pub leading-requires : goal.leading-requires
leading-requires c = λ k d h.
    let q = out_here c.self.invariant c.self.view_is c.args.child.0 c.from.result c.index.result.now c.items.result.now
    c.requires c.from.ensures c.index.ensures c.items.ensures in
    let l = out_within c.args.self.now c.args.child.0 c.items.result.now q k d h in
    let m = length-map c.self.inside.edges.items edge_of in
    omega (arith, l, m, ap length c.deref.ensures.value, ap (λ (g : Graph). length g.edges) c.self.view_is)

pub returns-clause-place : goal.returns-clause-place
returns-clause-place c =
    let q = out_here c.self.invariant c.self.view_is c.args.child.0 c.from.result c.index.result.now c.items.result.now
    c.requires c.from.ensures c.index.ensures c.items.ensures in
    edge_here c.self.invariant c.self.view_is c.args.child.0 c.args.parent.0 c.items.result.now c.deref.result.now
    c.leading.result q c.deref.ensures.value c.leading.ensures.some c.leading.ensures.none

pub returns-clause-has : goal.returns-clause-has
returns-clause-has c =
    joins-found c.args.self.now.edges c.args.child.0 c.args.parent.0 c.leading.result (returns-clause-place c)
