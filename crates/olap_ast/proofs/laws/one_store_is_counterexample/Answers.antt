use Rattle.olap_ast.proofs.SummarizableExample.{one_store_is_counterexample}
use Rattle.olap_ast.proofs.laws.one_store_is_counterexample.Goals as goal

pub returns : goal.returns
returns c = one_store_is_counterexample
