-- The numbers that words spell.
--     number_of   a number of 64 bits, as a seed is
--     size_of     how many stores are made
use Rattle.std.specs.Prelude.{◌^◌, ◌&&◌, ℕ, List, length, Option, Some, None, option_and_then, if◌then◌else◌, nat_le, nat_lt}
use Rattle.std.specs.Str.Parse.{digits_value}
use Rattle.olap_base.specs.Limits.{most_generated}
use Rattle.olap_numerals.specs.Values.{is_numeral}

-- the number that one to twenty decimal digits spell, if it is below 2 ^ 64
abbrev pub number_of : List ℕ → Option ℕ
number_of word =
    if nat_le (length word) 20 && (is_numeral word && nat_lt (digits_value 10 word) (2 ^ 64))
    then Some (digits_value 10 word) else None

-- the same of a number from 1 to the most stores that may be asked for
abbrev pub size_of : List ℕ → Option ℕ
size_of word = option_and_then (λ n. if nat_le 1 n && nat_le n most_generated then Some n else None) (number_of word)
