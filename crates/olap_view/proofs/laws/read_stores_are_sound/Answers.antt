-- The law, from its lemma.
use Rattle.olap_view.proofs.ReadStoreLemmas.{read-stores}
use Rattle.olap_view.proofs.laws.read_stores_are_sound.Goals as goal

pub returns : goal.returns
returns c = read-stores
