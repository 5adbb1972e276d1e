-- The set took in what the edges so far lead to.
use Rattle.olap_base.specs.Graph.{category_count}
use Rattle.olap_bits.specs.Sets.{members}
use Rattle.olap_proof.specs.{Places.possible_graph, Seen.SeenPossible, Walking.Grows}
use Rattle.olap_proof.proofs.walking.grow_by_possible.Given as goal

abbrev pub invariant-edges : goal.invariant-edges
invariant-edges l = Grows (possible_graph l.place.decided) (category_count l.graph) (SeenPossible l.place.decided l.e)
    (members l.initial.set) (members l.set) l.grew
