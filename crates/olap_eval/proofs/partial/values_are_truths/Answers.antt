use Rattle.olap_eval.proofs.PartialLemmas.{values_are_truths}
use Rattle.olap_eval.proofs.partial.values_are_truths.Goals as goal

pub returns : goal.returns
returns c = values_are_truths
