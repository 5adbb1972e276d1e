use Rattle.std.proofs.Common.{arith}
use Rattle.olap_instance.proofs.RosterLemmas.{count-is}
use Rattle.olap_instance.proofs.rosters.Roster.len.Goals as goal

pub returns : goal.returns
returns c = grind (arith, count-is)
