-- The rows before the next one are joined.
use Rattle.olap_cube_views.{proofs.SumLemmas.IsJoined, specs.CubeTallies.entries_of}
use Rattle.olap_cube_views.proofs.sums.join_neighbours.Given as goal

abbrev pub invariant-rows : goal.invariant-rows
invariant-rows l = IsJoined (entries_of l.fn.rows) (entries_of l.rows) l.last l.next
