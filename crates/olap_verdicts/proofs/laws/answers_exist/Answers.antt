use Rattle.olap_verdicts.proofs.SomeAnswer.{answers_exist}
use Rattle.olap_verdicts.proofs.laws.answers_exist.Goals as goal

pub returns : goal.returns
returns c = answers_exist c.valid_schemas_have_candidates.ensures.sources c.texts_are_judged.ensures
