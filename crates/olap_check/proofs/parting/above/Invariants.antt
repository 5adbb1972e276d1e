-- The search upwards, and what is marked is above x. Marking uses places up.
use Rattle.std.proofs.Common.{◌+◌, length}
use Rattle.olap_graph.specs.Marking.{unmarked_count}
use Rattle.olap_check.specs.Splitting.{IsClimbing}
use Rattle.olap_check.proofs.parting.above.Given as goal

abbrev pub invariant-listed : goal.invariant-listed
invariant-listed l = IsClimbing l.instance l.categories l.x l.seen.items l.list.items

abbrev pub decreases-listed : goal.decreases-listed
decreases-listed l = unmarked_count l.seen.items + length l.list.items
