-- One bit less is 1.
use Rattle.std.proofs.Common.{rules}
use Rattle.olap_bits.proofs.ChangingLemmas.{without_one}
use Rattle.olap_bits.proofs.sets.CatSet.without.Goals as goal

pub returns : goal.returns
returns g c = rw c.from.ensures (without_one c.args.self.words c.args.n (search rules))
