-- The members of the fields so far.
use Rattle.olap_cube_views.{proofs.CubeReadingLemmas.MembersSoFar, specs.Dimensions.{graphs_of, instances_of}}
use Rattle.olap_cube_views.specs.Seen.{members_of}
use Rattle.olap_cube_views.proofs.reading.members.Given as goal

abbrev pub invariant-dimensions : goal.invariant-dimensions
invariant-dimensions l =
    MembersSoFar (graphs_of l.graphs) (instances_of l.instances) l.rows.row l.k (members_of l.members.items)
