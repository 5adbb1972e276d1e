-- The law, from its lemma.
use Rattle.olap_view.proofs.PrintedStoreLemmas.{printed-stores}
use Rattle.olap_view.proofs.laws.printed_stores_are_read.Goals as goal

pub returns : goal.returns
returns c = printed-stores
