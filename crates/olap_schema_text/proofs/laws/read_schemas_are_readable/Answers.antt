use Rattle.olap_schema_text.proofs.ValidSchemas.{read_is_readable}
use Rattle.olap_schema_text.proofs.laws.read_schemas_are_readable.Goals as goal

pub returns : goal.returns
returns c = read_is_readable
