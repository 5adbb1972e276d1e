use Rattle.olap_reasoning.proofs.OneAnswer.{findings_are_one_list}
use Rattle.olap_reasoning.proofs.laws.findings_are_one.Goals as goal

pub returns : goal.returns
returns c = findings_are_one_list
