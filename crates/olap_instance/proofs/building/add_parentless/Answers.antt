use Rattle.std.proofs.Common.{arith}
use Rattle.olap_instance.proofs.BuilderSteps.{told-none}
use Rattle.olap_instance.proofs.building.add_parentless.Goals as goal

pub returns-clause-parents : goal.returns-clause-parents
returns-clause-parents c = grind (arith, told-none)
