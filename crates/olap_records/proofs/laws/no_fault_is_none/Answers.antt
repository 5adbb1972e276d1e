use Rattle.olap_records.proofs.FaultLemmas.{none-iff}
use Rattle.olap_records.proofs.laws.no_fault_is_none.Goals as goal

pub returns : goal.returns
returns g c = none-iff
