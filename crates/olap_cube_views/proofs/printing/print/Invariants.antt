-- The text of the rows so far.
use Rattle.std.proofs.Common.{◌≡◌, ◌∷◌, ◌+◌, length, map, take}
use Rattle.olap_records.specs.Texts.{text_of_rows}
use Rattle.olap_cube_views.specs.{CubeViewText.{fields_in, header}, Dimensions.instances_of, Seen.cube_rows_of}
use Rattle.olap_cube_views.proofs.printing.print.Given as goal

abbrev pub invariant-rows : goal.invariant-rows
invariant-rows l = record {
  text : l.out.text
      ≡ text_of_rows (header (length (instances_of l.instances))
      ∷ map (fields_in (instances_of l.instances))
      (cube_rows_of (length l.view.target) (take l.row-index l.row-items)));
  width : l.out.width ≡ length l.instances + 4;
}
