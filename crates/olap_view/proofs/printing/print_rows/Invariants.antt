-- What was there, and the text of the first record and of the rows so far.
use Rattle.std.{proofs.Common.{◌≡◌, ◌∷◌, ◌++◌, map, take}, specs.Option.option_map}
use Rattle.olap_records.specs.Texts.{text_of_rows}
use Rattle.olap_view.specs.{Seen.rows_of, ViewText.{behind, fields_in}}
use Rattle.olap_view.proofs.printing.print_rows.Given as goal

abbrev pub invariant-rows : goal.invariant-rows
invariant-rows l = record {
  text : l.out.text ≡ l.fn.out.text ++ text_of_rows (map (λ f. f.now) l.first
      ∷ map (λ r. behind (option_map (λ n. n.now) l.category) (fields_in l.instance r))
      (rows_of (take l.row-index l.row-items)));
  width : l.out.width ≡ l.fn.out.width;
}
