-- The decimal text of a number spells it.
use Rattle.std.proofs.Common.{◌≡◌, ◌<◌, ◌+◌, ◌^◌, ◌==◌, ◌∙◌, Bool, true, false, ℕ, ℤ, pos, negsuc, suc, List, Some, refl, ap, arith, slice_index, decimal}
use Rattle.std.proofs.lemmas.{Bool.ne_eqb, Fmt.decimal_is_IsNumeral_wide, Str.Parse.digit_at}
use Rattle.std.specs.{Fmt.signed_decimal, Int.IsInRange, Int.Signed.mag}
use Rattle.std.specs.Str.Parse.{IsNumeral, digits_value, signed_digits_value, without_leading_sign}
use Rattle.olap_numerals.proofs.Spelling.{numeral-decides, signed_of}

-- digits begin with no sign
no-sign : (ds : List ℕ) → IsNumeral 10 ds → ((slice_index ds 0 == 45) ≡ false) × ((slice_index ds 0 == 43) ≡ false)
no-sign ds h =
    let r : IsInRange 48 57 (slice_index ds 0) = digit_at ds 0 h.1 h.0 in
    (ne_eqb (slice_index ds 0) 45 (λ e. omega arith), ne_eqb (slice_index ds 0) 43 (λ e. omega arith))

-- digits stay as they are where a sign is taken off
unsigned-same : (ds : List ℕ) → IsNumeral 10 ds → without_leading_sign ds ≡ ds
unsigned-same ds h = let n = no-sign ds h in rw (n.0, n.1) refl

-- digits spell the same number with a sign and without
unsigned-value : (ds : List ℕ) → IsNumeral 10 ds → signed_digits_value 10 ds ≡ pos (digits_value 10 ds)
unsigned-value ds h = let n = no-sign ds h in rw (n.0, n.1) refl

-- the decimal text of a number is a numeral, after its sign, and has its value
pub spelt : (z : ℤ) → mag z + 1 < 10 ^ 64 → IsNumeral 10 (without_leading_sign (signed_decimal z))
    × (signed_digits_value 10 (signed_decimal z) ≡ z)
spelt (pos n) h =
    let l : n < 10 ^ 64 = omega arith in
    let d = decimal_is_IsNumeral_wide n l in
    (rw (unsigned-same (decimal n) d.0) d.0, unsigned-value (decimal n) d.0 ∙ ap pos d.1)
spelt (negsuc n) h =
    let l : suc n < 10 ^ 64 = omega arith in
    let d = decimal_is_IsNumeral_wide (suc n) l in
    (d.0, rw d.1 refl)

-- a printed number reads back, where it passes the test
pub printed : (test : ℤ → Bool) (z : ℤ) → test z ≡ true → mag z + 1 < 10 ^ 64
    → signed_of test (signed_decimal z) ≡ Some z
printed test z t h = let s = spelt z h in let n = (numeral-decides (without_leading_sign (signed_decimal z))).1 s.0 in
    rw (n, s.1, t) refl
