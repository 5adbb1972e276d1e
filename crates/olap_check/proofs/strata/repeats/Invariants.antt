-- What is listed is above x, and what is marked is closed or listed. Marking uses places up.
use Rattle.std.proofs.Common.{◌+◌, length}
use Rattle.olap_graph.specs.Marking.{unmarked_count}
use Rattle.olap_check.specs.Strata.{IsSearch}
use Rattle.olap_check.proofs.strata.repeats.Given as goal

abbrev pub invariant-listed : goal.invariant-listed
invariant-listed l = IsSearch l.instance l.category l.x l.seen.items l.list.items

abbrev pub decreases-listed : goal.decreases-listed
decreases-listed l = unmarked_count l.seen.items + length l.list.items
