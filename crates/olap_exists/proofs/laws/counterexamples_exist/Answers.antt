use Rattle.olap_exists.proofs.Counterexamples as counterexamples
use Rattle.olap_exists.proofs.laws.counterexamples_exist.Goals as goal

pub returns : goal.returns
returns c = counterexamples.counterexamples_exist c.fresh_names_exist.ensures
    c.valid_schemas_have_candidates.ensures.sources c.summarizable_exactly_if_none_frozen.ensures
