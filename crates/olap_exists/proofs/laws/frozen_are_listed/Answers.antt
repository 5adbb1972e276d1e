use Rattle.olap_exists.proofs.FrozenListed as listed
use Rattle.olap_exists.proofs.laws.frozen_are_listed.Goals as goal

pub returns : goal.returns
returns c = listed.frozen_are_listed c.fresh_names_exist.ensures
