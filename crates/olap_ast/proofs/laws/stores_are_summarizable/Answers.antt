use Rattle.olap_ast.proofs.SummarizableExample.{stores_are_summarizable}
use Rattle.olap_ast.proofs.laws.stores_are_summarizable.Goals as goal

pub returns : goal.returns
returns c = stores_are_summarizable
