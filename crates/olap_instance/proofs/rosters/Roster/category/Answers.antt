use Rattle.std.proofs.{Common.arith, lemmas.List.get_or-map}
use Rattle.olap_instance.proofs.RosterLemmas.{count-is, member-is}
use Rattle.olap_instance.proofs.rosters.Roster.category.Goals as goal

pub index-requires : goal.index-requires
index-requires c = grind (arith, count-is)

pub returns : goal.returns
returns c = grind (arith, count-is, get_or-map, member-is)
