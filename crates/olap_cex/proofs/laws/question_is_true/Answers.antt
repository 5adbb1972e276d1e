-- The law is a lemma.
use Rattle.olap_cex.proofs.LawLemmas as law
use Rattle.olap_cex.proofs.laws.question_is_true.Goals as goal

pub returns : goal.returns
returns c = law.question_is_true
