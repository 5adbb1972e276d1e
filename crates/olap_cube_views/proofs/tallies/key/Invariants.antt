-- The key of the first dimensions.
use Rattle.olap_cube_views.proofs.AncestorLemmas.{KeySoFar}
use Rattle.olap_cube_views.proofs.tallies.key.Given as goal

abbrev pub invariant-dimensions : goal.invariant-dimensions
invariant-dimensions l = KeySoFar l.columns l.members l.k l.key
