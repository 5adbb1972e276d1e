use Rattle.olap_reasoning.proofs.OneAnswer.{too_many_are_not_listed}
use Rattle.olap_reasoning.proofs.laws.too_many_are_not_listed.Goals as goal

pub returns : goal.returns
returns c = too_many_are_not_listed
