-- The set took in what the decisions so far lead to.
use Rattle.std.proofs.Common.{◌≡◌, ℕ, ◌<◌, length, true}
use Rattle.olap_base.specs.Graph.{Graph, HasEdge, category_count}
use Rattle.olap_bits.specs.Sets.{members}
use Rattle.olap_graph.specs.Lookups.{edge_at}
use Rattle.olap_proof.specs.{Seen.{SeenDecisions, decision_at}, Walking.Grows}
use Rattle.olap_proof.proofs.walking.grow_by_decisions.Given as goal

abbrev pub invariant-decisions : goal.invariant-decisions
invariant-decisions l = (g : Graph) → ((k : ℕ) → k < length l.decisions → (decision_at l.decisions k).present ≡ true
    → HasEdge g (edge_at l.graph (decision_at l.decisions k).edge.0).child
    (edge_at l.graph (decision_at l.decisions k).edge.0).parent)
    → Grows g (category_count l.graph) (SeenDecisions l.graph l.decisions l.i) (members l.initial.set) (members l.set)
    l.grew
