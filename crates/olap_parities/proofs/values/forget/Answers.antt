-- Nothing is known of any variable.
use Rattle.std.proofs.Common.{rules}
use Rattle.olap_parities.proofs.KnownLemmas.{forgotten}
use Rattle.olap_parities.proofs.values.forget.Goals as goal

pub returns : goal.returns
returns c = forgotten _ c.values.k (search rules) c.values.invariant
