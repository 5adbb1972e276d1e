use Rattle.olap_proof.proofs.VerdictLemmas.{verdicts_are_one}
use Rattle.olap_proof.proofs.laws.verdicts_are_one.Goals as goal

pub returns : goal.returns
returns c = verdicts_are_one
