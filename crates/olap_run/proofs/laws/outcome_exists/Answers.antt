use Rattle.olap_run.proofs.SomeOutcome.{outcome_exists}
use Rattle.olap_run.proofs.laws.outcome_exists.Goals as goal

pub returns : goal.returns
returns c = outcome_exists c.answers_exist.ensures c.answers_exist-2.ensures c.answers_exist-3.ensures
    c.answers_exist-4.ensures c.read_schemas_are_readable.ensures c.read_questions_are_valid.ensures
