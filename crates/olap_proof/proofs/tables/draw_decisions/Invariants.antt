-- The decisions so far are drawn.
use Rattle.std.proofs.Common.{◌≡◌, ℕ, ◌<◌, length, true}
use Rattle.olap_base.specs.Graph.{Graph, HasEdge}
use Rattle.olap_graph.specs.Lookups.{edge_at}
use Rattle.olap_proof.specs.{Seen.{SeenDecisions, decision_at}, Tables.Draws}
use Rattle.olap_proof.proofs.tables.draw_decisions.Given as goal

abbrev pub invariant-decisions : goal.invariant-decisions
invariant-decisions l = record {
  count : length l.rows ≡ length l.initial.rows;
  drawn : (g : Graph) → ((k : ℕ) → k < length l.decisions → (decision_at l.decisions k).present ≡ true
      → HasEdge g (edge_at l.graph (decision_at l.decisions k).edge.0).child
      (edge_at l.graph (decision_at l.decisions k).edge.0).parent)
      → Draws g (SeenDecisions l.graph l.decisions l.i) l.initial.rows l.rows;
}
