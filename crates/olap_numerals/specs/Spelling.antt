-- Spelling by std's parse, within the bounds of numerals.
--     has_plus    a plus stands in front
--     is_small    the number is within the bounds
--     small_of    the number, if it is
use Rattle.std.specs.Prelude.{◌==◌, Bool, false, ℕ, ℤ, pos, neg_ℤ, List, [], ◌∷◌, Option, Some, None, if◌then◌else◌}
use Rattle.olap_base.specs.Bytes.{plus_sign}
use Rattle.olap_numerals.specs.Numerals.{most_number}
use Rattle.olap_numerals.specs.Values.{is_within}

abbrev pub has_plus : List ℕ → Bool
has_plus [] = false
has_plus (b ∷ bs) = b == plus_sign

abbrev pub is_small : ℤ → Bool
is_small z = is_within (neg_ℤ (pos most_number)) (pos most_number) z

abbrev pub small_of : Option ℤ → Option ℤ
small_of None = None
small_of (Some n) = if is_small n then Some n else None
