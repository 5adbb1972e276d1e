use Rattle.olap_plans.proofs.SomeAnswer.{answers_exist}
use Rattle.olap_plans.proofs.laws.answers_exist.Goals as goal

pub returns : goal.returns
returns c = answers_exist c.counterexamples_exist.ensures c.summarizable_exactly_if_none_frozen.ensures
    c.read_schemas_are_valid.ensures c.an_input_is_made.ensures c.regions_are_served.ensures
