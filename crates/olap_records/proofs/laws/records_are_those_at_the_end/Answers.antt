use Rattle.olap_records.proofs.StandingLemmas.{records-at-end}
use Rattle.olap_records.proofs.laws.records_are_those_at_the_end.Goals as goal

pub returns : goal.returns
returns c = records-at-end
