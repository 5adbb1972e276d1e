use Rattle.olap_ast.proofs.SmallModel.{frozen_exactly}
use Rattle.olap_ast.proofs.laws.frozen_exactly_if_some_instance.Goals as goal

pub returns : goal.returns
returns c = frozen_exactly
