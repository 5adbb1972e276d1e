use Rattle.olap_run.proofs.Accepting.{proved_is_accepted}
use Rattle.olap_run.proofs.laws.proved_is_accepted.Goals as goal

pub returns : goal.returns
returns c = proved_is_accepted
