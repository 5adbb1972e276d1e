-- The records so far are added.
use Rattle.std.{proofs.Common.{◌≡◌, ◌++◌, map}, specs.List.range_with_len}
use Rattle.olap_records.specs.Texts.{text_of_rows}
use Rattle.olap_generate.specs.Members.{fact_row}
use Rattle.olap_generate.proofs.facts.add_facts.Given as goal

abbrev pub invariant-facts : goal.invariant-facts
invariant-facts l = record {
  text : l.out.text ≡ l.fn.out.text ++ text_of_rows (map (fact_row l.input.seed) (range_with_len 1 l.k));
  width : l.out.width ≡ 2;
}
