-- The ends of the chosen ones of the edges so far.
use Rattle.olap_bits.specs.Sets.{members}
use Rattle.olap_cex.proofs.EndLemmas.{AreEnds}
use Rattle.olap_cex.proofs.members.ends_of.Given as goal

abbrev pub invariant-edges : goal.invariant-edges
invariant-edges l = AreEnds l.graph.edges l.edges l.e (members l.found)
