-- Each category of the set is reached; where nothing grew, the set has all that its edges lead to.
use Rattle.std.proofs.Common.{◌+◌, cond}
use Rattle.olap_base.specs.Graph.{category_count}
use Rattle.olap_bits.specs.Sets.{members}
use Rattle.olap_proof.{proofs.WalkingLemmas.{IsOnWay, missing}, specs.Places.leading_graph}
use Rattle.olap_proof.proofs.walking.known_from.Given as goal

abbrev pub invariant-rounds : goal.invariant-rounds
invariant-rounds l = IsOnWay (leading_graph l.place) l.fn.from.0 (members l.reached) l.grows

abbrev pub decreases-rounds : goal.decreases-rounds
decreases-rounds l = missing (members l.reached) (category_count l.graph) + cond l.grows 1 0
