use Rattle.olap_base.proofs.ViewLemmas.{agree_exactly}
use Rattle.olap_base.proofs.laws.agree_exactly_if_reached_by_one.Goals as goal

pub returns : goal.returns
returns c = agree_exactly
