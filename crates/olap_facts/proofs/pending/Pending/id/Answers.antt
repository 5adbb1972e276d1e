-- The field is there.
use Rattle.std.proofs.Common.{sym}
use Rattle.csv.{proofs.RecordFacts.{field-get, field-there}, specs.Records.fields_of}
use Rattle.olap_facts.proofs.pending.Pending.id.Goals as goal

pub unreachable-requires : goal.unreachable-requires
unreachable-requires c =
    field-there (fields_of c.args.self.now.ids) c.args.k c.requires (sym c.in-None.ensures.value)

pub returns : goal.returns
returns c =
    sym (field-get (fields_of c.args.self.now.ids) c.args.k c.in-Some.id.now (sym c.in-Some.ensures.value))
