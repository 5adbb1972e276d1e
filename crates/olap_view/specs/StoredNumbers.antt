-- The numbers of stored rows, as fields spell them.
--     count_of   a count
--     is_sum     whether a number may be a stored sum
--     sum_of     a sum
use Rattle.std.specs.Prelude.{◌&&◌, Bool, ℕ, ℤ, pos, negsuc, List, Option, Some, None, if◌then◌else◌, nat_le, nat_lt}
use Rattle.std.specs.Str.Parse.{digits_value, signed_digits_value, without_leading_sign}
use Rattle.olap_base.specs.Limits.{most_count, most_sum}
use Rattle.olap_numerals.specs.Values.{is_numeral}

-- a count: decimal digits of a number from 1 to the greatest count of a stored row
abbrev pub count_of : List ℕ → Option ℕ
count_of bs =
    let n = digits_value 10 bs in
    if is_numeral bs && (nat_lt 0 n && nat_le n most_count) then Some n else None

-- of a magnitude that a stored sum may have
abbrev pub is_sum : ℤ → Bool
is_sum (pos n) = nat_le n most_sum
is_sum (negsuc n) = nat_lt n most_sum

-- a sum: a plus, a minus or neither, and decimal digits of a number that may be a stored sum
abbrev pub sum_of : List ℕ → Option ℤ
sum_of bs =
    if is_numeral (without_leading_sign bs) && is_sum (signed_digits_value 10 bs)
    then Some (signed_digits_value 10 bs)
    else None
