use Rattle.olap_frozen.proofs.ChosenInstance as chosen
use Rattle.olap_frozen.proofs.laws.frozen_exactly_if_sound.Goals as goal

pub returns : goal.returns
returns c = chosen.frozen_exactly_if_sound
