use Rattle.olap_proof.proofs.RefusedLemmas as refused
use Rattle.olap_proof.proofs.laws.lines_are_spelled_exactly.Goals as goal

pub returns : goal.returns
returns c = refused.lines_are_spelled_exactly
