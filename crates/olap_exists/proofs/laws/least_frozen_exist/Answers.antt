use Rattle.olap_exists.proofs.FrozenListed as listed
use Rattle.olap_exists.proofs.laws.least_frozen_exist.Goals as goal

pub returns : goal.returns
returns c = listed.least_frozen_exist c.fresh_names_exist.ensures
