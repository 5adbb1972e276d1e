-- The clause of a literal that is true.
use Rattle.olap_parities.proofs.ParityLemmas.{one_literal}
use Rattle.olap_parities.proofs.parities.keep_fact.Goals as goal

pub returns : goal.returns
returns c = λ v e t. c.keep_if.ensures v t (one_literal v _ e)
