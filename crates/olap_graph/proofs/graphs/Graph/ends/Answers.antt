use Rattle.olap_graph.proofs.EdgeLemmas.{ends_here}
use Rattle.olap_graph.proofs.graphs.Graph.ends.Goals as goal

pub returns-clause-child : goal.returns-clause-child
returns-clause-child c =
    (ends_here c.self.invariant c.self.view_is _ _ _ c.requires c.from.ensures c.index-ends.ensures).0

pub returns-clause-parent : goal.returns-clause-parent
returns-clause-parent c =
    (ends_here c.self.invariant c.self.view_is _ _ _ c.requires c.from.ensures c.index-ends.ensures).1
