-- The numbers that std's parse gives, by the words of this crate.
use Rattle.std.proofs.Common.{arith, ◌≡◌, ◌<◌, ◌==◌, ◌^◌, ◌&&◌, ℕ, ℤ, pos, negsuc, false, List, Result, None, refl, nat_lt, slice_index}
use Rattle.std.proofs.lemmas.{Bool.Decides.{Decides-and, Decides-like, Decides-ltb}, Fmt.IsAscii-from_digits}
use Rattle.std.{proofs.lemmas.Str.IsUtf8-from_ascii, specs.Bool.Decides, specs.Int.RustNames.FitsSigned}
use Rattle.std.specs.{Result.result_ok, Str.IsUtf8}
use Rattle.std.specs.Str.Parse.{IsNumeral, ParsesUnsigned, digits_value, without_leading_plus}
use Rattle.olap_numerals.{proofs.Spelling.{numeral-decides, ok-where, none-unless}, specs.Values.is_numeral}
use Rattle.olap_view.specs.NumbersInside.{digits_of, is_wide}
use mir.Syntax.{w128}

-- ---- 64 bits

-- the test of digits decides std's words
pub digits-decides : (bs : List ℕ) → Decides (is_numeral bs && nat_lt (digits_value 10 bs) (2 ^ 64))
    (IsNumeral 10 bs × (digits_value 10 bs < 2 ^ 64))
digits-decides bs =
    Decides-and (is_numeral bs) (nat_lt (digits_value 10 bs) (2 ^ 64)) (numeral-decides bs)
    (Decides-ltb (digits_value 10 bs) (2 ^ 64))

-- with no plus first the whole text is parsed
pub without-plus : (bs : List ℕ) → (slice_index bs 0 == 43) ≡ false → without_leading_plus bs ≡ bs
without-plus bs e = rw e refl

-- what std's parse gives of a text with no plus is the number that its digits spell
pub digits-parses : {E : Type 0} (bs : List ℕ) (r : Result ℕ E) → (slice_index bs 0 == 43) ≡ false
    → ParsesUnsigned 64 10 bs r → result_ok r ≡ digits_of bs
digits-parses bs r e h = grind (arith, ok-where, nat_lt, without-plus, digits-decides)

-- what is no text spells no number
pub digits-of-text : (bs : List ℕ) → ¬ (IsUtf8 bs) → None ≡ digits_of bs
digits-of-text bs n = grind (arith, none-unless, nat_lt, digits-decides, IsUtf8-from_ascii, IsAscii-from_digits)

-- ---- 128 bits

-- the test of 128 bits decides std's word
pub wide-decides : (z : ℤ) → Decides (is_wide z) (FitsSigned w128 z)
wide-decides (pos n) =
    Decides-like (nat_lt n (2 ^ 127)) (λ h. record { sfits = h }) (λ f. f.sfits) (Decides-ltb n (2 ^ 127))
wide-decides (negsuc n) =
    Decides-like (nat_lt n (2 ^ 127)) (λ h. record { sfits = h }) (λ f. f.sfits) (Decides-ltb n (2 ^ 127))
