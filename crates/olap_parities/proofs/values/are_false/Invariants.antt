-- The literals so far are known false.
use Rattle.std.{proofs.Common.take, specs.Prelude.All}
use Rattle.olap_parities.proofs.KnownLemmas.{IsFalse}
use Rattle.olap_parities.proofs.values.are_false.Given as goal

abbrev pub invariant-lits : goal.invariant-lits
invariant-lits l = All (IsFalse l.values) (take l.k l.clause)
