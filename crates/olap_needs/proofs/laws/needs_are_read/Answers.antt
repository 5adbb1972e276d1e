use Rattle.olap_needs.proofs.TextLemmas.{needs_are_read}
use Rattle.olap_needs.proofs.laws.needs_are_read.Goals as goal

pub returns : goal.returns
returns c = needs_are_read c.printed_schemas_are_read.ensures
