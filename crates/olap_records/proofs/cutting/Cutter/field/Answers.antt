use Rattle.std.proofs.{Common.{◌∙◌, sym}, lemmas.Option.get_or_from_slice_get}
use Rattle.olap_records.{proofs.Fields.{field-is, field-there}, specs.CutterInside.row_of}
use Rattle.olap_records.proofs.cutting.Cutter.field.Goals as goal

pub unreachable-requires : goal.unreachable-requires
unreachable-requires c =
    field-there (row_of c.args.self.now) c.args.i c.requires (sym c.in-None.ensures.value)

pub returns : goal.returns
returns c =
    sym (get_or_from_slice_get (row_of c.args.self.now) c.args.i c.in-Some.field.now _
    (sym (field-is (row_of c.args.self.now) c.args.i) ∙ sym c.in-Some.ensures.value))
