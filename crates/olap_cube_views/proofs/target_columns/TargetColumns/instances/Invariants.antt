-- The instances of the first dimensions.
use Rattle.std.proofs.Common.{◌≡◌, take}
use Rattle.olap_cube_views.specs.Dimensions.{instances_in, instances_of}
use Rattle.olap_cube_views.proofs.target_columns.TargetColumns.instances.Given as goal

abbrev pub invariant-dimensions : goal.invariant-dimensions
invariant-dimensions l = instances_of l.instances.items ≡ take l.k (instances_in l.self)
