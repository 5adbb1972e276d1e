use Rattle.olap_ast.proofs.QuestionLemmas.{unused_exactly}
use Rattle.olap_ast.proofs.laws.unused_exactly_if_none_frozen.Goals as goal

pub returns : goal.returns
returns c = unused_exactly
