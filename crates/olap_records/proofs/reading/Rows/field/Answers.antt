use Rattle.std.proofs.{Common.{◌∙◌, sym}, lemmas.Option.get_or_from_slice_get}
use Rattle.csv.specs.Records.{fields_of}
use Rattle.olap_records.proofs.Fields.{field-is, field-there}
use Rattle.olap_records.proofs.reading.Rows.field.Goals as goal

pub unreachable-requires : goal.unreachable-requires
unreachable-requires c =
    field-there (fields_of c.self.inside.row) c.args.i (rw (← c.self.view_is) at c.requires)
    (sym c.in-None.ensures.value)

pub returns : goal.returns
returns c =
    rw (← c.self.view_is) (sym (get_or_from_slice_get (fields_of c.self.inside.row) c.args.i c.in-Some.field.now _
    (sym (field-is (fields_of c.self.inside.row) c.args.i) ∙ sym c.in-Some.ensures.value)))
