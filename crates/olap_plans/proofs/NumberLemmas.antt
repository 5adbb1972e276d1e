-- The number that std's parse gives of a word is the one that the word spells.
use Rattle.std.proofs.Common.{◌≡◌, ◌==◌, ◌^◌, ◌&&◌, ◌∙◌, ℕ, Bool, true, false, List, Result, Some, None, if◌then◌else◌, ap, sym, length, nat_le, nat_lt, slice_index}
use Rattle.std.specs.{Result.result_ok, Str.Parse.{ParsesUnsigned, digits_value}}
use Rattle.olap_numerals.{proofs.Spelling.ok-where, specs.Values.is_numeral}
use Rattle.olap_plans.specs.Numbers.{number_of}
use Rattle.olap_view.proofs.StoredNumbersLemmas.{without-plus, digits-decides}

-- what is parsed of a short word with no plus first is the number that it spells
pub number-parses : {E : Type 0} (bs : List ℕ) (r : Result ℕ E) → nat_le (length bs) 20 ≡ true
    → (slice_index bs 0 == 43) ≡ false → ParsesUnsigned 64 10 bs r → result_ok r ≡ number_of bs
number-parses bs r short e h =
    ok-where r (is_numeral bs && nat_lt (digits_value 10 bs) (2 ^ 64)) (digits_value 10 bs)
    (rw (without-plus bs e) at h) (digits-decides bs)
    ∙ ap (λ (b : Bool). if b && (is_numeral bs && nat_lt (digits_value 10 bs) (2 ^ 64)) then Some
    (digits_value 10 bs) else None)
    (sym short)
