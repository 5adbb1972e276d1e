-- The columns of the first dimensions.
use Rattle.std.proofs.Common.{◌≡◌, length, take}
use Rattle.olap_view.specs.Seen.{ids}
use Rattle.olap_cube_views.specs.Dimensions.{categories_in, instances_in}
use Rattle.olap_cube_views.proofs.tallies.columns.Given as goal

abbrev pub invariant-dimensions : goal.invariant-dimensions
invariant-dimensions l = record {
  instances : instances_in l.columns.items ≡ take l.k l.legals;
  categories : categories_in l.columns.items ≡ take l.k (ids l.target);
  size : length l.columns.items ≡ l.k;
}
