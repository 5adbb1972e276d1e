-- The ways among the sources so far are counted.
use Rattle.std.proofs.Common.{◌≤◌, take}
use Rattle.olap_base.specs.OneFact.{HoldsTimes}
use Rattle.olap_cube.specs.Told.{tuple_of, tuples_in}
use Rattle.olap_cube_summ.specs.{Dimensions.schemas_of, Reaching.ReachBy}
use Rattle.olap_cube_summ.proofs.reaching.count_ways.Given as goal

abbrev pub invariant-sources : goal.invariant-sources
invariant-sources l = record {
  few : l.ways ≤ l.source-index;
  counted : HoldsTimes (λ t. ReachBy (schemas_of l.cube) l.founds t (tuple_of l.target))
      (tuples_in (take l.source-index l.sources))
      l.ways;
}
