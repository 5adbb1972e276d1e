-- The law of answers.
use Rattle.olap_plans.proofs.OneAnswer.{answers_are_one}
use Rattle.olap_plans.proofs.laws.answers_are_one.Goals as goal

pub returns : goal.returns
returns c = answers_are_one
