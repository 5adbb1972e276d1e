use Rattle.olap_reasoning.proofs.OneAnswer.{answers_are_one}
use Rattle.olap_reasoning.proofs.laws.answers_are_one.Goals as goal

pub returns : goal.returns
returns c = answers_are_one
