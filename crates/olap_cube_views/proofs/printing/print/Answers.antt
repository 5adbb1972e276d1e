-- One row more.
use Rattle.std.proofs.Common.{◌++◌, ap, length, ◌∙◌}
use Rattle.olap_records.specs.Texts.{text_of_row}
use Rattle.olap_cube_views.proofs.CubePrintingLemmas.{cube_view_more, row_fields, row_stands}
use Rattle.olap_cube_views.specs.{CubeViewText.{fields_in, header}, Dimensions.instances_of}
use Rattle.olap_cube_views.proofs.printing.print.Goals as goal

pub print_row-requires-clause-members : goal.print_row-requires-clause-members
print_row-requires-clause-members c =
    row_stands (instances_of c.args.instances.now) (length c.args.view.now.target) c.items-row-items.result.now
    c.rows.row-index _ c.rows-test.true (rw c.items-row-items.ensures c.requires.at_members)

pub rows-preserved : goal.rows-preserved
rows-preserved c =
    let is = instances_of c.args.instances.now in
    let n = length c.args.view.now.target in
    record {
      text = cube_view_more (header (length is)) (fields_in is) n items c.rows.row-index
          _ out c.print_row.new.out.text c.rows-test.true c.rows.invariant.text
          (c.in_ok-print_row.ensures.text
          ∙ ap (λ fields. out ++ text_of_row fields) (row_fields is n items c.rows.row-index _ c.rows-test.true
          (rw c.items-row-items.ensures c.requires.at_members)));
      width = c.in_ok-print_row.ensures.width ∙ c.rows.invariant.width;
    }
  where
    open c use {rows.out.text as out, items-row-items.result.now as items}
