use Rattle.std.proofs.{Common.arith, lemmas.List.take_all}
use Rattle.olap_instance.proofs.{Among.place-more, LinkingLemmas.parents-more}
use Rattle.olap_instance.proofs.building.link.Goals as goal

pub parents-preserved : goal.parents-preserved
parents-preserved c = grind (arith, place-more)

pub returns : goal.returns
returns c = grind (arith, take_all, parents-more)
