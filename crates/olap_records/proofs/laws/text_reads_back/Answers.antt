use Rattle.olap_records.proofs.ReadingBack.{text-back}
use Rattle.olap_records.proofs.laws.text_reads_back.Goals as goal

pub returns : goal.returns
returns c = text-back
