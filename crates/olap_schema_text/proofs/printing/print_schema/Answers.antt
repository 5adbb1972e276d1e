use Rattle.std.proofs.Common.{rules, ◌≡◌}
use Rattle.olap_schema_text.{proofs.BackSchema.read_back, specs.Printing.schema_text}
use Rattle.olap_schema.specs.Schemas.{schema_of}
use Rattle.olap_schema_text.proofs.printing.print_schema.Goals as goal

pub returns-clause-reads : goal.returns-clause-reads
returns-clause-reads c =
    let text : c.from_vec.result ≡ schema_text (schema_of c.args.schema.now) = search rules in
    read_back (schema_of c.args.schema.now) c.from_vec.result text
    (record { valid = c.constraints.ensures.valid; texts = c.constraints.ensures.texts })
