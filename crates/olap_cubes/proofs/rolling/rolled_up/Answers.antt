-- The same, on the graphs of the dimensions.
use Rattle.olap_cube.specs.CubeSummarizable.{graphs_of}
use Rattle.olap_cube_views.specs.Dimensions.{instances_in}
use Rattle.olap_cube_summ.specs.Dimensions.{schemas_of}
use Rattle.olap_cubes.proofs.RollingLemmas.{no-memory}
use Rattle.olap_cubes.proofs.rolling.rolled_up.Goals as goal

pub returns-in_err-graphs-clause-fault : goal.returns-in_err-graphs-clause-fault
returns-in_err-graphs-clause-fault g c =
    no-memory (graphs_of (schemas_of c.args.cube.now)) (instances_in c.args.columns.now)
    (g.L.Library.rest c.args.lib.now) c.from_residual.result c.from_residual.ensures.1
