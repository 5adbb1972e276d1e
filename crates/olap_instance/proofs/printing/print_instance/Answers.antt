use Rattle.std.proofs.Common.{arith}
use Rattle.olap_instance.proofs.ReadBack.{text-reads}
use Rattle.olap_instance.proofs.printing.print_instance.Goals as goal

pub returns-clause-reads : goal.returns-clause-reads
returns-clause-reads c = grind (arith, text-reads)
