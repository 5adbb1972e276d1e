use Rattle.olap_proof.proofs.PlainTreeLemmas as trees
use Rattle.olap_proof.proofs.existence.certificates_exist_exactly_where_summarizable.Goals as goal

pub returns : goal.returns
returns c = trees.certificates_exist_exactly_where_summarizable
