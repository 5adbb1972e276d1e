-- The pairs so far have been asked.
use Rattle.olap_check.proofs.LinkingLemmas.{AreEdgesBefore}
use Rattle.olap_check.proofs.linking.edge_table.Given as goal

abbrev pub invariant-pairs : goal.invariant-pairs
invariant-pairs l = AreEdgesBefore l.graph l.categories l.pair l.edges.items
