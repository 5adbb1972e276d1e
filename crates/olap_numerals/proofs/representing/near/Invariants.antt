use Rattle.std.{proofs.Common.{◌↔◌, ℤ, take}, specs.Prelude.Contains}
use Rattle.olap_numerals.specs.Representatives.{IsUpTo}
use Rattle.olap_numerals.proofs.representing.near.Given as goal

abbrev pub invariant-constants : goal.invariant-constants
invariant-constants l = (a : ℤ) → Contains l.numbers.items a ↔ IsUpTo (take l.n-index l.constants) a
