use Rattle.olap_proof.proofs.RefusedLemmas as refused
use Rattle.olap_proof.proofs.laws.the_root_is_not_loose.Goals as goal

pub returns : goal.returns
returns c = refused.the_root_is_not_loose
