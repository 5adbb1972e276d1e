use Rattle.olap_ast.proofs.Summing.{summarizable_exactly}
use Rattle.olap_ast.proofs.laws.summarizable_exactly_if_none_frozen.Goals as goal

pub returns : goal.returns
returns c = summarizable_exactly
