-- One row more.
use Rattle.std.{proofs.Common.{◌∙◌, map}, specs.Option.option_map}
use Rattle.olap_view.{proofs.PrintingLemmas.row_more, specs.ViewText.{behind, fields_in}}
use Rattle.olap_view.proofs.printing.print_rows.Goals as goal

pub rows-preserved : goal.rows-preserved
rows-preserved c =
    let name = option_map (λ n. n.now) c.args.category in
    record {
      text = row_more c.args.out.now.text (map (λ f. f.now) c.args.first.now)
          (λ r. behind name (fields_in c.args.instance.now r)) c.items-row-items.result.now c.rows.row-index _
          c.rows.out.text c.print_row.new.out.text c.rows-test.true c.rows.invariant.text
          (rw c.id.ensures at c.in_ok-print_row.ensures.text);
      width = c.in_ok-print_row.ensures.width ∙ c.rows.invariant.width;
    }
