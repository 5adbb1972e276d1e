-- The law, from its lemma.
use Rattle.olap_view.proofs.PrintedStoreLemmas.{direct-views}
use Rattle.olap_view.proofs.laws.direct_views_are_read_back.Goals as goal

pub returns : goal.returns
returns c = direct-views
