-- The literals so far are known false, or are this one.
use Rattle.std.{proofs.Common.take, specs.Prelude.All}
use Rattle.olap_parities.proofs.KnownLemmas.{IsFalseBut}
use Rattle.olap_parities.proofs.values.are_false_but.Given as goal

abbrev pub invariant-lits : goal.invariant-lits
invariant-lits l = All (IsFalseBut l.values l.lit) (take l.k l.clause)
