-- This many graphs are gathered.
use Rattle.std.proofs.Common.{◌≡◌, take}
use Rattle.olap_cube.specs.CubeSummarizable.{graphs_of}
use Rattle.olap_cube_views.specs.Dimensions.{graphs_of as graphs_at}
use Rattle.olap_cube_summ.specs.Dimensions.{schemas_of}
use Rattle.olap_cubes.proofs.rolling.graphs.Given as goal

abbrev pub invariant-dimensions : goal.invariant-dimensions
invariant-dimensions l = graphs_at l.graphs.items ≡ take l.k (graphs_of (schemas_of l.cube))
