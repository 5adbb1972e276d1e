use Rattle.olap_schema_text.{proofs.ValidSchemas.start_is_readable, specs.Reading.above_of}
use Rattle.olap_schema_text.proofs.texts.read_schema.Goals as goal

pub read_from-requires-clause-readable : goal.read_from-requires-clause-readable
read_from-requires-clause-readable c =
    start_is_readable (above_of c.in-Ok.started) c.args.text.now c.in-Ok.ensures.above
