-- The numbers of a printed row are read as they were.
use Rattle.std.proofs.Common.{◌≡◌, ◌+◌, ◌<◌, ◌≤◌, ◌^◌, ℕ, ℤ, pos, negsuc, true, Some, decimal, nat_le, nat_lt, arith, w64}
use Rattle.std.proofs.lemmas.{Bool.Decides.{Decides-ltb, nat_tests}, Fmt.decimal_is_IsNumeral_wide, Int.ints}
use Rattle.std.specs.{Fmt.signed_decimal, Int.RustNames.FitsSigned, Int.Signed.mag, Prelude.{neg_ℤ, ◌≤ℤ◌}}
use Rattle.olap_base.specs.Limits.{most_count, most_sum}
use Rattle.olap_numerals.{proofs.Spelling.{i64-decides, is_i64, numeral-decides}, specs.Values.value_of}
use Rattle.olap_records.proofs.Printed.{printed}
use Rattle.olap_view.specs.{StoreLaws.PrintedNumbersAreRead, StoredNumbers.{count_of, is_sum, sum_of}}

-- a count that is printed is read back
count-back : (n : ℕ) → 1 ≤ n → n ≤ most_count → count_of (decimal n) ≡ Some n
count-back n l h = grind (arith, decimal_is_IsNumeral_wide, numeral-decides, nat_lt, Decides-ltb, nat_le, nat_tests)

-- a sum within the bounds may be stored
pub in-bounds : (z : ℤ) → neg_ℤ (pos most_sum) ≤ℤ z → z ≤ℤ pos most_sum → is_sum z ≡ true
in-bounds (pos n) a b = let l : n ≤ most_sum = omega (arith, ints) in grind (arith, nat_tests)
in-bounds (negsuc n) a b = let l : n < most_sum = omega (arith, ints) in grind (arith, nat_tests)

-- such a sum has few digits
short-sum : (z : ℤ) → neg_ℤ (pos most_sum) ≤ℤ z → z ≤ℤ pos most_sum → mag z + 1 < 10 ^ 64
short-sum (pos n) a b = let l : n ≤ most_sum = omega (arith, ints) in omega arith
short-sum (negsuc n) a b = let l : n < most_sum = omega (arith, ints) in omega arith

-- so has a value of 64 bits
short-value : (z : ℤ) → FitsSigned w64 z → mag z + 1 < 10 ^ 64
short-value (pos n) f = let l : n < 2 ^ 63 = f.sfits in omega arith
short-value (negsuc n) f = let l : n < 2 ^ 63 = f.sfits in omega arith

-- such a value is read back
value-back : (z : ℤ) → FitsSigned w64 z → value_of (signed_decimal z) ≡ Some z
value-back z f = printed is_i64 z ((i64-decides z).1 f) (short-value z f)

-- such a sum is read back
sum-back : (z : ℤ) → neg_ℤ (pos most_sum) ≤ℤ z → z ≤ℤ pos most_sum → sum_of (signed_decimal z) ≡ Some z
sum-back z a b = printed is_sum z (in-bounds z a b) (short-sum z a b)

-- the theorem
pub printed-numbers : PrintedNumbersAreRead
printed-numbers i name r h = search (count-back, sum-back, value-back)
