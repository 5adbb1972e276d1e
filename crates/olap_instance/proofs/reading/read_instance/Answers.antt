use Rattle.std.proofs.Common.{rules}
use Rattle.olap_instance.proofs.reading.read_instance.Goals as goal

pub returns : goal.returns
returns c = search rules
