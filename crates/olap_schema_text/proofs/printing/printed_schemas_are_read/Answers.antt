use Rattle.olap_schema_text.proofs.BackSchema.{printed_is_read}
use Rattle.olap_schema_text.proofs.printing.printed_schemas_are_read.Goals as goal

pub returns : goal.returns
returns c = printed_is_read
