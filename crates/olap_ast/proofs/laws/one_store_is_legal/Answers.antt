use Rattle.olap_ast.proofs.Examples.{one_store_is_legal}
use Rattle.olap_ast.proofs.laws.one_store_is_legal.Goals as goal

pub returns : goal.returns
returns c = one_store_is_legal
