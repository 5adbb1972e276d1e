use Rattle.std.proofs.Common.{◌≡◌, ◌∷◌, map, take}
use Rattle.olap_records.specs.Texts.{text_of_rows}
use Rattle.olap_instance.specs.{InstanceText.header, Printing.member_fields}
use Rattle.olap_instance.proofs.printing.printed.Given as goal

abbrev pub invariant-others : goal.invariant-others
invariant-others l = record {
  text : l.out.text ≡ text_of_rows (header ∷ map (member_fields l.graph l.instance) (take l.m l.instance));
  width : l.out.width ≡ 4;
}
