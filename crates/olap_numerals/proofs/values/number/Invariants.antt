-- The number is that of the digits so far.
use Rattle.std.{proofs.Common.{◌≡◌, ◌<◌, ◌≤◌, ◌^◌, ℕ, get_or, length, take}, specs.Int.IsInRange}
use Rattle.std.specs.Str.Parse.{digits_value}
use Rattle.olap_numerals.proofs.values.number.Given as goal

abbrev pub invariant-digits : goal.invariant-digits
invariant-digits l = record {
  within : l.i ≤ length l.digits;
  value : l.number ≡ digits_value 10 (take l.i l.digits);
  small : l.number < 10 ^ l.i;
  all : (j : ℕ) → j < l.i → IsInRange 48 57 (get_or l.digits j 0);
}
