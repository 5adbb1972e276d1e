use Rattle.olap_proof.proofs.ExampleLemmas as examples
use Rattle.olap_proof.proofs.laws.chain_is_shortly_certified.Goals as goal

pub returns : goal.returns
returns c = examples.chain_is_shortly_certified
