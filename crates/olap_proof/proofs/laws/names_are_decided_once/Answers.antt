use Rattle.olap_proof.proofs.RefusedLemmas as refused
use Rattle.olap_proof.proofs.laws.names_are_decided_once.Goals as goal

pub returns : goal.returns
returns c = refused.names_are_decided_once
