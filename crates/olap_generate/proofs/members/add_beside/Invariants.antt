-- The records so far are added.
use Rattle.std.{proofs.Common.{◌≡◌, ◌++◌, map}, specs.List.range_with_len}
use Rattle.olap_records.specs.Texts.{text_of_rows}
use Rattle.olap_generate.specs.Members.{numbered, row}
use Rattle.olap_generate.proofs.members.add_beside.Given as goal

abbrev pub invariant-members : goal.invariant-members
invariant-members l = record {
  text : l.out.text ≡ l.fn.out.text ++ text_of_rows
      (map (λ k. row (numbered l.fn.letter k) l.fn.category (numbered l.fn.above k)) (range_with_len 0 l.k-counter));
  width : l.out.width ≡ 4;
}
