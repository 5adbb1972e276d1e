use Rattle.olap_generate.proofs.ServedLemmas.{regions_are_served}
use Rattle.olap_generate.proofs.laws.regions_are_served.Goals as goal

pub returns : goal.returns
returns c = regions_are_served
