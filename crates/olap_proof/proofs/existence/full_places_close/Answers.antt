use Rattle.olap_proof.proofs.ClosingLemmas as closing
use Rattle.olap_proof.proofs.existence.full_places_close.Goals as goal

pub returns : goal.returns
returns c = closing.full_places_close
