use Rattle.olap_records.proofs.FaultLemmas.{first-iff}
use Rattle.olap_records.proofs.laws.first_fault_is_first.Goals as goal

pub returns : goal.returns
returns g c = first-iff
