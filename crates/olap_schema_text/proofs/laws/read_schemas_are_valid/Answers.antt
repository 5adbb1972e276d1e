use Rattle.olap_schema_text.proofs.ValidSchemas.{read_is_valid}
use Rattle.olap_schema_text.proofs.laws.read_schemas_are_valid.Goals as goal

pub returns : goal.returns
returns c = read_is_valid
