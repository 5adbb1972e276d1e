-- The records so far are added.
use Rattle.std.{proofs.Common.{◌≡◌, ◌++◌, map}, specs.List.range_with_len}
use Rattle.olap_records.specs.Texts.{text_of_rows}
use Rattle.olap_generate.specs.Members.{store_row}
use Rattle.olap_generate.proofs.members.add_stores.Given as goal

abbrev pub invariant-stores : goal.invariant-stores
invariant-stores l = record {
  text : l.out.text ≡ l.fn.out.text ++ text_of_rows (map (store_row l.input.seed l.input.size) (range_with_len 1 l.k));
  width : l.out.width ≡ 4;
}
