use Rattle.olap_records.proofs.TableLemmas.{all_read-is_first}
use Rattle.olap_records.proofs.laws.all_read_is_first.Goals as goal

pub returns : goal.returns
returns g c = all_read-is_first
