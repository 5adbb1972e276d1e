-- The numerals of the numbers so far.
use Rattle.std.proofs.Common.{◌≡◌, map, take}
use Rattle.olap_numerals.specs.Numerals.{canonical}
use Rattle.olap_numerals.proofs.writing.numerals.Given as goal

abbrev pub invariant-numbers : goal.invariant-numbers
invariant-numbers l = l.texts.items ≡ map canonical (take l.n-index l.numbers)
