-- The columns of the first dimensions.
use Rattle.std.proofs.Common.{◌≡◌, take}
use Rattle.olap_cube_views.proofs.target_columns.TargetColumns.lent.Given as goal

abbrev pub invariant-dimensions : goal.invariant-dimensions
invariant-dimensions l = l.columns.items ≡ take l.k l.self
