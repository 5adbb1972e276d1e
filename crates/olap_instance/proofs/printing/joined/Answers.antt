use Rattle.std.proofs.{Common.arith, lemmas.List.{get_or-map, length-map}}
use Rattle.olap_instance.proofs.Joining.{join-more}
use Rattle.olap_instance.proofs.printing.joined.Goals as goal

pub members-preserved : goal.members-preserved
members-preserved c = grind (arith, length-map, get_or-map, join-more)
