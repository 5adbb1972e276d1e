-- The numbers that texts spell.
--     is_numeral      decimal digits and nothing else
--     value_within    the number that a text spells, where it lies within bounds
--     value_of        where it has 64 bits
use Rattle.std.specs.Prelude.{◌-◌, ◌^◌, ◌&&◌, Bool, ℕ, ℤ, pos, neg_ℤ, int_lt, not, List, length, Option, Some, None, if◌then◌else◌, nat_lt}
use Rattle.std.specs.Str.{all_ascii_digits}
use Rattle.std.specs.Str.Parse.{signed_digits_value, without_leading_sign}

-- one decimal digit or more, and nothing else
abbrev pub is_numeral : List ℕ → Bool
is_numeral ds = nat_lt 0 (length ds) && all_ascii_digits ds

-- whether a number lies within these bounds
abbrev pub is_within : ℤ → ℤ → ℤ → Bool
is_within from to z = not (int_lt z from) && not (int_lt to z)

-- the number that a text spells by a plus, a minus or neither, and decimal digits, where it lies within these bounds
abbrev pub value_within : ℤ → ℤ → List ℕ → Option ℤ
value_within from to bs =
    if is_numeral (without_leading_sign bs) && is_within from to (signed_digits_value 10 bs)
    then Some (signed_digits_value 10 bs)
    else None

-- the number that a text spells so, if it fits 64 bits
abbrev pub value_of : List ℕ → Option ℤ
value_of bs = value_within (neg_ℤ (pos (2 ^ 63))) (pos (2 ^ 63 - 1)) bs
