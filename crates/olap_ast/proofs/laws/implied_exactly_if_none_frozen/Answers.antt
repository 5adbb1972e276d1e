use Rattle.olap_ast.proofs.QuestionLemmas.{implied_exactly}
use Rattle.olap_ast.proofs.laws.implied_exactly_if_none_frozen.Goals as goal

pub returns : goal.returns
returns c = implied_exactly
