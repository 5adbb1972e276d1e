-- The law is a lemma.
use Rattle.olap_cex.proofs.LawLemmas as law
use Rattle.olap_cex.proofs.laws.root_is_member.Goals as goal

pub returns : goal.returns
returns c = law.root_is_member
