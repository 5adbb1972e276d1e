use Rattle.olap_records.proofs.MarkLemmas.{strip-more}
use Rattle.olap_records.proofs.laws.mark_is_in_front.Goals as goal

pub returns : goal.returns
returns c = strip-more
