-- The law is a lemma.
use Rattle.olap_cex.proofs.LawLemmas as law
use Rattle.olap_cex.proofs.laws.frozen_is_legal.Goals as goal

pub returns : goal.returns
returns c = law.frozen_is_legal
