-- The texts of the dimensions so far are appended.
use Rattle.std.proofs.Common.{◌≡◌, ◌++◌, map, take}
use Rattle.olap_cube_summ.specs.{CubeCexText.dimensions_text, Dimensions.schemas_of, Found.chosen_of}
use Rattle.olap_cube_summ.proofs.telling.push_dimensions.Given as goal

abbrev pub invariant-dimensions : goal.invariant-dimensions
invariant-dimensions l = l.out.items
    ≡ l.initial.out.items ++ dimensions_text 1 (take l.i (schemas_of l.cube)) (map chosen_of (take l.i l.founds))
