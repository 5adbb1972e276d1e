use Rattle.std.proofs.Common.{◌∙◌, ap, not}
use Rattle.olap_schema_text.{proofs.ValidSchemas.rest_is_readable, specs.Reading.above_of}
use Rattle.olap_schema_text.proofs.texts.read_from.Goals as goal

pub finish-requires : goal.finish-requires
finish-requires c =
    rest_is_readable _ (above_of c.read_lines.new.reading) c.in-Ok.ensures
    (c.is_none.ensures ∙ ap not c.if-is_none.false) c.requires.readable
