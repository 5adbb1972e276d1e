use Rattle.std.proofs.{Common.arith, lemmas.List.get_or_default}
use Rattle.olap_instance.proofs.RosterLemmas.{count-is, member-is}
use Rattle.olap_instance.proofs.rosters.Roster.id.Goals as goal

pub bounds-as_slice-place : goal.bounds-as_slice-place
bounds-as_slice-place c = grind (arith, count-is)

pub returns : goal.returns
returns c = grind (arith, count-is, get_or_default, member-is)
