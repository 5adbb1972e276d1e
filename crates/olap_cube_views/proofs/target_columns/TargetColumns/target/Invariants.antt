-- The categories of the first dimensions.
use Rattle.std.proofs.Common.{◌≡◌, take}
use Rattle.olap_view.specs.Seen.{ids}
use Rattle.olap_cube_views.specs.Dimensions.{categories_in}
use Rattle.olap_cube_views.proofs.target_columns.TargetColumns.target.Given as goal

abbrev pub invariant-dimensions : goal.invariant-dimensions
invariant-dimensions l = ids l.target.items ≡ take l.k (categories_in l.self)
