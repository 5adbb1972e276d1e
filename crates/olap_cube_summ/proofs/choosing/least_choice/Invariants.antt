-- What is least in the dimensions that are left is so with what was chosen; and with the mask they can still be bad.
use Rattle.std.proofs.Common.{◌<◌, ◌++◌, List, drop}
use Rattle.olap_cube_summ.specs.{Choices.{AreLeast, dimensions_of, sets_of}, Dimensions.schemas_of}
use Rattle.olap_cube_summ.specs.Masks.{CanBeBad, all_of}
use Rattle.olap_frozen.specs.declared.founding.Found.{Found}
use Rattle.olap_cube_summ.proofs.choosing.least_choice.Given as goal

abbrev pub invariant-dimensions : goal.invariant-dimensions
invariant-dimensions l = record {
  least : (xs : List Found)
      → AreLeast l.sources (drop l.i (dimensions_of (schemas_of l.cube) l.questions l.families)) l.mask xs
      → AreLeast l.sources (dimensions_of (schemas_of l.cube) l.questions l.families) (all_of l.sources)
      (l.founds.items ++ xs);
  bad : CanBeBad l.sources (sets_of (drop l.i (dimensions_of (schemas_of l.cube) l.questions l.families))) l.mask;
  small : l.mask < 256;
}
