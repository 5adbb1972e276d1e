-- The law is a lemma.
use Rattle.olap_cex.proofs.PrintedLemmas as law
use Rattle.olap_cex.proofs.laws.printed_instances_are_read.Goals as goal

pub returns : goal.returns
returns c = law.printed_instances
