-- The set took in what the ways from the categories so far lead to.
use Rattle.std.proofs.Common.{ℕ}
use Rattle.olap_base.specs.Graph.{Graph, HasEdge}
use Rattle.olap_bits.specs.Sets.{members}
use Rattle.olap_proof.specs.{Seen.LeadsHere, Walking.{Grows, SeenFrom}}
use Rattle.olap_proof.proofs.walking.grow_by_ways.Given as goal

abbrev pub invariant-categories : goal.invariant-categories
invariant-categories l = (g : Graph) → ((c d : ℕ) → LeadsHere l.place.ways c d → HasEdge g c d)
    → Grows g l.count (SeenFrom (LeadsHere l.place.ways) l.c) (members l.initial.set) (members l.set) l.grew
