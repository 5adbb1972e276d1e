use Rattle.olap_records.proofs.StandingLemmas.{records-begin}
use Rattle.olap_records.proofs.laws.records_begin.Goals as goal

pub returns : goal.returns
returns c = records-begin
