-- The law of printed schemas: they are read back.
use Rattle.std.specs.Prelude.{◌≡◌, Ok}
use Rattle.olap_ast.specs.Schema.{Schema}
use Rattle.olap_schema.specs.Readable.{IsReadable}
use Rattle.olap_schema_text.specs.Judging.{schema_read}
use Rattle.olap_schema_text.specs.Printing.{schema_text}

-- the canonical text of such a schema stands for it
abbrev pub PrintedIsRead : Type 0
PrintedIsRead = (s : Schema) → IsReadable s → schema_read (schema_text s) ≡ Ok s
