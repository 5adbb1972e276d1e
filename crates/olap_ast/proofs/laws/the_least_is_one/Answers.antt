use Rattle.olap_ast.proofs.Determined.{the_least_is_one_law}
use Rattle.olap_ast.proofs.laws.the_least_is_one.Goals as goal

pub returns : goal.returns
returns c = the_least_is_one_law
