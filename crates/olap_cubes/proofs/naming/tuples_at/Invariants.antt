-- This many tuples are named.
use Rattle.olap_cube.specs.Told.{tuples_in}
use Rattle.olap_cube_summ.specs.Dimensions.{schemas_of}
use Rattle.olap_order.specs.Words.{texts}
use Rattle.olap_cubes.proofs.TupleLemmas.{AreNamedUpTo}
use Rattle.olap_cubes.proofs.naming.tuples_at.Given as goal

abbrev pub invariant-words : goal.invariant-words
invariant-words l = AreNamedUpTo (schemas_of l.cube) l.at (texts l.words) l.k (tuples_in l.tuples.items)
