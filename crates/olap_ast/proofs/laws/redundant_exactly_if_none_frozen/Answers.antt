use Rattle.olap_ast.proofs.QuestionLemmas.{redundant_exactly}
use Rattle.olap_ast.proofs.laws.redundant_exactly_if_none_frozen.Goals as goal

pub returns : goal.returns
returns c = redundant_exactly
