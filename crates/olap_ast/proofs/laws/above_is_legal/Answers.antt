use Rattle.olap_ast.proofs.Truth.{above_is_legal_lem}
use Rattle.olap_ast.proofs.laws.above_is_legal.Goals as goal

pub returns : goal.returns
returns c = above_is_legal_lem
