use Rattle.std.proofs.Common.{sym, arith}
use Rattle.olap_frozen.proofs.{ChosenLemmas.edge_inside, LeafLemmas.{edge_there, no_edge_there}}
use Rattle.olap_frozen.proofs.leaves.LeafShape.has_edge.Goals as goal

pub bounds-self-from : goal.bounds-self-from
bounds-self-from c = grind (arith, edge_inside)

pub returns-in-Some : goal.returns-in-Some
returns-in-Some c =
    let s = c.args.self.now in
    edge_there s.graph.now s.candidates.now s.root.0 s.edges.now s.names.now s.rows.now c.has.ensures.hierarchy s.leaf
    c.args.c.0 c.args.d.0 c.from.result c.in-Some.e.0 c.from.ensures (sym c.in-Some.ensures.place)

pub returns-in-None : goal.returns-in-None
returns-in-None c = grind (arith, no_edge_there)
