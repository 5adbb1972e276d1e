use Rattle.std.proofs.Common.{arith}
use Rattle.olap_instance.proofs.Checks.{kinds-more}
use Rattle.olap_instance.proofs.building.kinds.Goals as goal

pub categories-preserved : goal.categories-preserved
categories-preserved c = grind (arith, kinds-more)
