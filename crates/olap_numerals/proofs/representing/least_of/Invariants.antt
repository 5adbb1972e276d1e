use Rattle.std.{proofs.Common.{◌≡◌, fold, take}, specs.Int.int_min}
use Rattle.olap_numerals.proofs.representing.least_of.Given as goal

abbrev pub invariant-numbers : goal.invariant-numbers
invariant-numbers l = l.least ≡ fold int_min l.fn.first (take l.n-index l.rest)
