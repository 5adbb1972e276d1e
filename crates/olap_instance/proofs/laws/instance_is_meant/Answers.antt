use Rattle.olap_instance.proofs.MeaningLemmas.{instance-named}
use Rattle.olap_instance.proofs.laws.instance_is_meant.Goals as goal

pub returns : goal.returns
returns c = instance-named
