use Rattle.olap_schema_text.proofs.ValidQuestions.{question_is_valid}
use Rattle.olap_schema_text.proofs.laws.read_questions_are_valid.Goals as goal

pub returns : goal.returns
returns c = question_is_valid
