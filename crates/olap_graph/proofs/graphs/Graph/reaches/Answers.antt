use Rattle.olap_graph.proofs.EdgeLemmas.{reached_here}
use Rattle.olap_graph.proofs.graphs.Graph.reaches.Goals as goal

pub returns : goal.returns
returns c =
    reached_here c.self.invariant c.self.view_is c.args.c.0 c.args.d.0 c.from.result c.index.result.now c.has.result
    c.requires.child c.from.ensures c.index.ensures c.has.ensures
