use Rattle.olap_records.proofs.StandingLemmas.{pieces-join}
use Rattle.olap_records.proofs.laws.pieces_join.Goals as goal

pub returns : goal.returns
returns c = pieces-join
