-- Numbers of a few decimal digits, read one after another.
use Rattle.std.proofs.Common.{◌≡◌, ◌<◌, ◌≤◌, ◌+◌, ◌-◌, ◌*◌, ◌^◌, ℕ, zero, suc, pos, negsuc, neg_ℤ, ◌-ℤ◌, Bool, true, false, cond, List, [], get_or, length, take, Some, refl, ap, sym, subst, ◌∙◌, arith}
use Rattle.std.proofs.{Math.IntN.+ℤ_idl, Math.Nat.{pow-le-pow_right, pow-suc}, lemmas.Int.{to_z-of_z, to_z_pos}}
use Rattle.std.proofs.lemmas.{Int.Digits.digits_value_more, Str.digit_value_digit}
use Rattle.std.proofs.lemmas.Str.Parse.{numerals_by_value, tells_all_ascii_digits, tells_by_index}
use Rattle.std.specs.{Char.{digit_value, is_ascii_digit}, Int.IsInRange}
use Rattle.std.specs.Str.Parse.{IsNumeral, digits_value, signed_digits_value, starts_with_minus, without_leading_sign}
use Rattle.olap_numerals.{proofs.Spelling.{i64-decides, is_i64, numeral-decides}, specs.Values.value_of}
use native.Mathlib.Decide.{ℕ_discrete}
use mir.Syntax.{w64}
use mir.Val.{of_z, to_z}

-- a byte that is a digit lies among the digits
pub digit-within : (b : ℕ) → is_ascii_digit b ≡ true → IsInRange 48 57 b
digit-within b e = (tells_all_ascii_digits.parts b [] (rw e refl)).0

-- a number of fewer than 18 digits leaves room for one more
pub room-for_digit : (i n d : ℕ) → i < 18 → n < 10 ^ i → d ≤ 9 → n * 10 + d < 2 ^ 63
room-for_digit i n d h s l =
    let p : 10 ^ i ≤ 10 ^ 17 = pow-le-pow_right {n = 10} (omega arith) {i = i} {j = 17} (omega arith) in
    omega arith

-- a number of at most 18 digits
pub small-number : (i n : ℕ) → i ≤ 18 → n < 10 ^ i → n < 10 ^ 18
small-number i n h s =
    let p : 10 ^ i ≤ 10 ^ 18 = pow-le-pow_right {n = 10} (omega arith) {i = i} {j = 18} (omega arith) in
    omega arith

-- the digits up to i make n, and the next one is d
module _ (ds : List ℕ) (i n d : ℕ) (inside : i < length ds) (within : IsInRange 48 57 (get_or ds i 0))
    (is : d ≡ get_or ds i 0 - 48) where
  pub value-more : n ≡ digits_value 10 (take i ds) → n * 10 + d ≡ digits_value 10 (take (i + 1) ds)
  value-more v =
      let low = within.0 in
      let w = digit_value_digit (get_or ds i 0) within in
      let q : d ≡ digit_value (get_or ds i 0) = omega arith in
      ap (λ k. n * 10 + k) q ∙ ap (λ k. k * 10 + digit_value (get_or ds i 0)) v ∙ sym (digits_value_more 10 ds i inside)

  pub small-more : n < 10 ^ i → n * 10 + d < 10 ^ (i + 1)
  small-more s =
      let high = within.1 in
      let p : 10 ^ (i + 1) ≡ 10 ^ i * 10 = let e : i + 1 ≡ suc i = omega arith in ap (λ k. 10 ^ k) e ∙ pow-suc 10 i in
      omega arith

  pub all-more : ((j : ℕ) → j < i → IsInRange 48 57 (get_or ds j 0)) → (j : ℕ) → j < i + 1
      → IsInRange 48 57 (get_or ds j 0)
  all-more all j h = elim (ℕ_discrete j i) [
    | yes e ↦ subst (λ k. IsInRange 48 57 (get_or ds k 0)) (sym e) within
    | no ne ↦ let other = ne in all j (omega (arith, h, other))
  ]

-- bytes that lie among the digits are a numeral
pub numeral-of : (ds : List ℕ) → 0 < length ds → ((j : ℕ) → j < length ds → IsInRange 48 57 (get_or ds j 0))
    → IsNumeral 10 ds
numeral-of ds h all = (h, (numerals_by_value _ tells_by_index).to ds all)

-- ---- with a sign

-- less than 10 ^ 18 fits, whatever the sign
pub fits-signed : (n : ℕ) (b : Bool) → n < 10 ^ 18 → is_i64 (cond b (neg_ℤ (pos n)) (pos n)) ≡ true
fits-signed n false s =
    let l : n < 2 ^ 63 = omega arith in (i64-decides (pos n)).1 (record { sfits = l })
fits-signed zero true s = (i64-decides (pos 0)).1 (record { sfits = omega arith })
fits-signed (suc n) true s =
    let l : n < 2 ^ 63 = omega arith in (i64-decides (negsuc n)).1 (record { sfits = l })

-- the number that a text spells is that of its digits, with its sign
pub value-signed : (bs : List ℕ) (n : ℕ) → IsNumeral 10 (without_leading_sign bs)
    → n ≡ digits_value 10 (without_leading_sign bs) → n < 10 ^ 18
    → value_of bs ≡ Some (cond (starts_with_minus bs) (neg_ℤ (pos n)) (pos n))
value-signed bs n m v s =
    let numeral = (numeral-decides (without_leading_sign bs)).1 m in
    let signed : signed_digits_value 10 bs ≡ cond (starts_with_minus bs) (neg_ℤ (pos n)) (pos n) =
    ap (λ k. cond (starts_with_minus bs) (neg_ℤ (pos k)) (pos k)) (sym v) in
    rw (numeral, signed, fits-signed n (starts_with_minus bs) s) refl

-- with a plus
pub value-plus : (bs : List ℕ) (n : ℕ) (minus : Bool) → minus ≡ starts_with_minus bs → minus ≡ false
    → IsNumeral 10 (without_leading_sign bs) → n ≡ digits_value 10 (without_leading_sign bs) → n < 10 ^ 18
    → value_of bs ≡ Some (to_z w64 n)
value-plus bs n minus e f m v s =
    value-signed bs n m v s ∙ rw (sym e ∙ f) (ap Some (sym (to_z_pos w64 n (omega arith))))

-- with a minus
pub value-minus : (bs : List ℕ) (n : ℕ) (minus : Bool) → minus ≡ starts_with_minus bs → minus ≡ true
    → IsNumeral 10 (without_leading_sign bs) → n ≡ digits_value 10 (without_leading_sign bs) → n < 10 ^ 18
    → value_of bs ≡ Some (to_z w64 (of_z w64 (pos 0 -ℤ to_z w64 n)))
value-minus bs n minus e f m v s =
    let stands : to_z w64 n ≡ pos n = to_z_pos w64 n (omega arith) in
    let fits = (i64-decides (neg_ℤ (pos n))).0 (fits-signed n true s) in
    let negated : to_z w64 (of_z w64 (pos 0 -ℤ to_z w64 n)) ≡ neg_ℤ (pos n) =
    ap (λ z. to_z w64 (of_z w64 (pos 0 -ℤ z))) stands ∙ ap (λ z. to_z w64 (of_z w64 z)) (+ℤ_idl (neg_ℤ (pos n)))
    ∙ to_z-of_z w64 (neg_ℤ (pos n)) fits in
    value-signed bs n m v s ∙ rw (sym e ∙ f) (ap Some (sym negated))
