use Rattle.olap_view.proofs.StoreMeaningLemmas.{store-named}
use Rattle.olap_view.proofs.laws.store_is_meant.Goals as goal

pub returns : goal.returns
returns c = store-named
