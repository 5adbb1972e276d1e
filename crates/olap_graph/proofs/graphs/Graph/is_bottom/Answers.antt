use Rattle.olap_graph.proofs.EdgeLemmas.{bottom_here}
use Rattle.olap_graph.proofs.graphs.Graph.is_bottom.Goals as goal

pub returns : goal.returns
returns c =
    bottom_here c.self.invariant c.self.view_is c.args.c.0 c.from.result c.index.result.now c.requires c.from.ensures
    c.index.ensures
