use Rattle.olap_records.proofs.TableLemmas.{all_read-is_read}
use Rattle.olap_records.proofs.laws.all_read_is_read.Goals as goal

pub returns : goal.returns
returns g c = all_read-is_read
