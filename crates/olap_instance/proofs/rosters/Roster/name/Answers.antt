use Rattle.std.proofs.Common.{arith}
use Rattle.olap_instance.proofs.RosterLemmas.{count-is, member-is}
use Rattle.olap_instance.proofs.rosters.Roster.name.Goals as goal

pub of-requires : goal.of-requires
of-requires c = grind (arith, count-is)

pub returns : goal.returns
returns c = grind (arith, member-is)
