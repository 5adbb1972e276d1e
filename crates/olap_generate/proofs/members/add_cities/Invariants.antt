-- The records so far are added.
use Rattle.std.{proofs.Common.{◌≡◌, ◌++◌, map}, specs.List.range_with_len}
use Rattle.olap_records.specs.Texts.{text_of_rows}
use Rattle.olap_generate.specs.Members.{city_row}
use Rattle.olap_generate.proofs.members.add_cities.Given as goal

abbrev pub invariant-cities : goal.invariant-cities
invariant-cities l = record {
  text : l.out.text ≡ l.fn.out.text ++ text_of_rows (map (city_row) (range_with_len 0 l.j-counter));
  width : l.out.width ≡ 4;
}
