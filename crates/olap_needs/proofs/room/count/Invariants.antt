-- The nodes of the constraints so far.
use Rattle.std.{proofs.Common.{◌≡◌, take}, specs.Prelude.sum_by}
use Rattle.olap_needs.proofs.RoomLemmas.{stored_nodes}
use Rattle.olap_needs.proofs.room.count.Given as goal

abbrev pub invariant-constraints : goal.invariant-constraints
invariant-constraints l = l.count ≡ sum_by stored_nodes (take l.constraint-index l.constraints)
