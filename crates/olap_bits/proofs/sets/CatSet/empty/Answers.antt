-- No bit of the words is 1.
use Rattle.olap_bits.proofs.CatSetLemmas.{numbers_of-zeros}
use Rattle.olap_bits.proofs.sets.CatSet.empty.Goals as goal

pub returns : goal.returns
returns g c = numbers_of-zeros g.row.W
