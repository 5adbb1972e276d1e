-- The law is a lemma.
use Rattle.olap_cex.proofs.LawLemmas as law
use Rattle.olap_cex.proofs.laws.counterexample_sums_differ.Goals as goal

pub returns : goal.returns
returns c = law.counterexample_sums
