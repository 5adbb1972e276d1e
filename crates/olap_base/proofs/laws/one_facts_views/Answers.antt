use Rattle.olap_base.proofs.OneFactLemmas.{one_facts_views}
use Rattle.olap_base.proofs.laws.one_facts_views.Goals as goal

pub returns : goal.returns
returns c = one_facts_views
