use Rattle.olap_run.proofs.OneOutcome.{outcome_is_one}
use Rattle.olap_run.proofs.laws.outcome_is_one.Goals as goal

pub returns : goal.returns
returns c = outcome_is_one c.answers_are_one.ensures c.answers_are_one-2.ensures c.answers_are_one-3.ensures
    c.answers_are_one-4.ensures c.read_schemas_are_readable.ensures c.read_questions_are_valid.ensures
