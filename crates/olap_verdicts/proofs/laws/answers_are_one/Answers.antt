use Rattle.olap_verdicts.proofs.OneAnswer.{answers_are_one}
use Rattle.olap_verdicts.proofs.laws.answers_are_one.Goals as goal

pub returns : goal.returns
returns c = answers_are_one c.verdicts_are_one.ensures
