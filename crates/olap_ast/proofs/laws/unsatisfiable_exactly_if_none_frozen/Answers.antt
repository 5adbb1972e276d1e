use Rattle.olap_ast.proofs.QuestionLemmas.{unsatisfiable_exactly}
use Rattle.olap_ast.proofs.laws.unsatisfiable_exactly_if_none_frozen.Goals as goal

pub returns : goal.returns
returns c = unsatisfiable_exactly
