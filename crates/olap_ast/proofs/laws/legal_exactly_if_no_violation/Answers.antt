use Rattle.olap_ast.proofs.Unviolated.{legal_exactly}
use Rattle.olap_ast.proofs.laws.legal_exactly_if_no_violation.Goals as goal

pub returns : goal.returns
returns c = legal_exactly
