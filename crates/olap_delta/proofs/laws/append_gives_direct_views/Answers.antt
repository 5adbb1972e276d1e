-- Fact by fact.
use Rattle.olap_delta.proofs.LawLemmas.{append_gives}
use Rattle.olap_delta.proofs.laws.append_gives_direct_views.Goals as goal

pub returns : goal.returns
returns c = append_gives
