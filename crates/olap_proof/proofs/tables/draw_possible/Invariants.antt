-- The edges so far are drawn.
use Rattle.olap_proof.specs.{Places.possible_graph, Seen.SeenPossible, Tables.Draws}
use Rattle.olap_proof.proofs.tables.draw_possible.Given as goal

abbrev pub invariant-edges : goal.invariant-edges
invariant-edges l = Draws (possible_graph l.trail) (SeenPossible l.trail l.e) l.initial.rows l.rows
