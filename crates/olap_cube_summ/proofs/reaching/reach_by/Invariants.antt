-- In each dimension so far the root reaches the target by the source.
use Rattle.std.proofs.Common.{ℕ, ◌<◌}
use Rattle.olap_cube.specs.Told.{tuple_of}
use Rattle.olap_cube_summ.specs.{Dimensions.schemas_of, Reaching.ReachesAt}
use Rattle.olap_cube_summ.proofs.reaching.reach_by.Given as goal

abbrev pub invariant-dimensions : goal.invariant-dimensions
invariant-dimensions l = (k : ℕ) → k < l.i
    → ReachesAt (schemas_of l.cube) l.founds (tuple_of l.source) (tuple_of l.target) k
