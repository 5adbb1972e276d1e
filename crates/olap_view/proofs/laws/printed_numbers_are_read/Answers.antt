-- The law, from its lemma.
use Rattle.olap_view.proofs.StoreLawLemmas.{printed-numbers}
use Rattle.olap_view.proofs.laws.printed_numbers_are_read.Goals as goal

pub returns : goal.returns
returns c = printed-numbers
