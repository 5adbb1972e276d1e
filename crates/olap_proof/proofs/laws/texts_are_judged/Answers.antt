use Rattle.olap_proof.proofs.JudgingLemmas.{texts_are_judged}
use Rattle.olap_proof.proofs.laws.texts_are_judged.Goals as goal

pub returns : goal.returns
returns c = texts_are_judged
