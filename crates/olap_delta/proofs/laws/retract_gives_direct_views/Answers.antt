-- Fact by fact.
use Rattle.olap_delta.proofs.LawLemmas.{retract_gives}
use Rattle.olap_delta.proofs.laws.retract_gives_direct_views.Goals as goal

pub returns : goal.returns
returns c = retract_gives
