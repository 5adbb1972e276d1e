use Rattle.olap_facts.proofs.BottomLemmas.{bottom-is}
use Rattle.olap_facts.proofs.laws.bottom_is_decided.Goals as goal

pub returns : goal.returns
returns c = bottom-is
