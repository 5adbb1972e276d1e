use Rattle.olap_instance.proofs.Soundness.{read-sound}
use Rattle.olap_instance.proofs.laws.read_is_instance.Goals as goal

pub returns : goal.returns
returns c = read-sound
