use Rattle.olap_delta.proofs.NamedLemmas.{change-named}
use Rattle.olap_delta.proofs.laws.changes_are_named.Goals as goal

pub returns : goal.returns
returns c = change-named
