use Rattle.olap_ast.proofs.PartLemmas.{legal_exactly_if_parts_are_lem}
use Rattle.olap_ast.proofs.laws.legal_exactly_if_parts_are.Goals as goal

pub returns : goal.returns
returns c = legal_exactly_if_parts_are_lem
