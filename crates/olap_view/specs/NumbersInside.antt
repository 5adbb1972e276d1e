-- The numbers that fields spell, with the bounds of the machine's numbers.
--     digits_of   of 64 bits, without a sign
--     is_wide     whether a number is of 128 bits
--     wide_of     of 128 bits
use Rattle.std.specs.Prelude.{◌^◌, ◌&&◌, Bool, ℕ, ℤ, pos, negsuc, List, Option, Some, None, if◌then◌else◌, nat_lt}
use Rattle.std.specs.Str.Parse.{digits_value, signed_digits_value, without_leading_sign}
use Rattle.olap_numerals.specs.Values.{is_numeral}

-- decimal digits of a number of 64 bits
abbrev pub digits_of : List ℕ → Option ℕ
digits_of bs =
    if is_numeral bs && nat_lt (digits_value 10 bs) (2 ^ 64) then Some (digits_value 10 bs) else None

-- from -2 ^ 127 to 2 ^ 127 - 1
abbrev pub is_wide : ℤ → Bool
is_wide (pos n) = nat_lt n (2 ^ 127)
is_wide (negsuc n) = nat_lt n (2 ^ 127)

-- a plus, a minus or neither, and decimal digits of a number of 128 bits
abbrev pub wide_of : List ℕ → Option ℤ
wide_of bs =
    if is_numeral (without_leading_sign bs) && is_wide (signed_digits_value 10 bs)
    then Some (signed_digits_value 10 bs)
    else None
