use Rattle.olap_graph.proofs.{EdgeLemmas.out_here, TableLemmas.out_within}
use Rattle.olap_graph.proofs.graphs.Graph.parents.Goals as goal

pub returns-clause-edges : goal.returns-clause-edges
returns-clause-edges c =
    out_within c.args.self.now c.args.c.0 c.items.result.now (out_here c.self.invariant c.self.view_is c.args.c.0
    c.from.result c.index.result.now c.items.result.now c.requires c.from.ensures c.index.ensures c.items.ensures)
