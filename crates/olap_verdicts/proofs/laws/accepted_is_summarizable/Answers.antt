use Rattle.olap_verdicts.proofs.OneAnswer.{accepted_is_summarizable}
use Rattle.olap_verdicts.proofs.laws.accepted_is_summarizable.Goals as goal

pub returns : goal.returns
returns c = accepted_is_summarizable c.certificates_are_right.ensures
