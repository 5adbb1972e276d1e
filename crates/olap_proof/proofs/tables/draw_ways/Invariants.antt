-- The ways from the categories so far are drawn.
use Rattle.std.proofs.Common.{◌≡◌, ℕ, length}
use Rattle.olap_base.specs.Graph.{Graph, HasEdge}
use Rattle.olap_proof.specs.{Seen.LeadsHere, Tables.Draws, Walking.SeenFrom}
use Rattle.olap_proof.proofs.tables.draw_ways.Given as goal

abbrev pub invariant-categories : goal.invariant-categories
invariant-categories l = record {
  count : length l.rows ≡ length l.initial.rows;
  drawn : (g : Graph) → ((c d : ℕ) → LeadsHere l.ways c d → HasEdge g c d)
      → Draws g (SeenFrom (LeadsHere l.ways) l.c) l.initial.rows l.rows;
}
