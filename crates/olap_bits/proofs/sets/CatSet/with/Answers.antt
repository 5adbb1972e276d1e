-- One bit more is 1.
use Rattle.std.proofs.Common.{rules}
use Rattle.olap_bits.proofs.ChangingLemmas.{with_one}
use Rattle.olap_bits.proofs.sets.CatSet.with.Goals as goal

pub returns : goal.returns
returns g c = rw c.from.ensures (with_one c.args.self.words c.args.n (search rules))
