-- The members of the first fields.
use Rattle.std.proofs.Common.{◌≡◌, ◌≤◌, length, take}
use Rattle.olap_cube_views.{proofs.CubeReadingLemmas.MembersSoFar, specs.Dimensions.{graphs_of, instances_in}}
use Rattle.olap_cube_views.specs.Seen.{members_of}
use Rattle.olap_cube_views.proofs.rolling.members.Given as goal

abbrev pub invariant-dimensions : goal.invariant-dimensions
invariant-dimensions l = record {
  so_far : MembersSoFar (graphs_of l.graphs) (instances_in l.columns) l.row.row l.k (members_of (take l.k l.members));
  size : length l.members ≡ 4;
  most : l.k ≤ length l.columns;
}
