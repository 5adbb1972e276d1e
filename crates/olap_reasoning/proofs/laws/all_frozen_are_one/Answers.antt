use Rattle.olap_reasoning.proofs.OneAnswer.{all_frozen_are_one}
use Rattle.olap_reasoning.proofs.laws.all_frozen_are_one.Goals as goal

pub returns : goal.returns
returns c = all_frozen_are_one
