-- What std's parse gives, by the words of this crate.
use Rattle.std.proofs.Common.{◌≡◌, ◌<◌, ◌==◌, ◌∷◌, inl, inr, ◌^◌, ◌&&◌, ℕ, ℤ, pos, negsuc, neg_ℤ, ◌-◌, Bool, true, false, List, [], length, Result, Ok, Err, Option, Some, None, if◌then◌else◌, refl, sym, ap, true≢false, ◌∙◌, arith, rules, nat_lt}
use Rattle.std.proofs.lemmas.Bool.{cases_Bool, eqb-true, Decides.{Decides-and, Decides-like, Decides-ltb}}
use Rattle.std.proofs.lemmas.{Fmt.{IsAscii-from_digits, parse-signed_decimal}, Int.ints, Str.IsUtf8-from_ascii}
use Rattle.std.proofs.lemmas.Str.{Ascii.IsAscii-cons, Parse.{IsNumeralModel, numerals_by_value}}
use Rattle.std.specs.{Bool.Decides, Fmt.signed_decimal, Int.RustNames.FitsSigned, Int.Signed.mag}
use Rattle.std.specs.{Result.{OkIff, result_ok}, Str.{IsAscii, IsUtf8, all_ascii_digits}}
use Rattle.std.specs.Str.Parse.{IsNumeral, ParsesSigned, digits_value, signed_digits_value, without_leading_sign}
use Rattle.olap_numerals.{proofs.ComparingLemmas.within_is, specs.Values.{is_numeral, is_within}}
use mir.Syntax.{Width, w64}

-- std's numerals of base ten
pub own : IsNumeralModel (λ ds. all_ascii_digits ds ≡ true) (digits_value 10)
own = numerals_by_value _ (search rules)

-- the test of a numeral decides std's word
pub numeral-decides : (ds : List ℕ) → Decides (is_numeral ds) (IsNumeral 10 ds)
numeral-decides ds =
    Decides-and (nat_lt 0 (length ds)) (all_ascii_digits ds) (Decides-ltb 0 (length ds)) (own.to ds, own.from ds)

-- of 64 bits
abbrev pub is_i64 : ℤ → Bool
is_i64 z = is_within (neg_ℤ (pos (2 ^ 63))) (pos (2 ^ 63 - 1)) z

-- the test of 64 bits decides std's word
pub i64-decides : (z : ℤ) → Decides (is_i64 z) (FitsSigned w64 z)
i64-decides (pos n) = Decides-like (is_i64 (pos n))
    (λ h. record { sfits = let l = h.1 in omega (arith, ints) })
    (λ f. let l : n < 2 ^ 63 = f.sfits in (omega (arith, ints), omega (arith, ints)))
    (within_is (neg_ℤ (pos (2 ^ 63))) (pos (2 ^ 63 - 1)) (pos n))
i64-decides (negsuc n) = Decides-like (is_i64 (negsuc n))
    (λ h. record { sfits = let l = h.0 in omega (arith, ints) })
    (λ f. let l : n < 2 ^ 63 = f.sfits in (omega (arith, ints), omega (arith, ints)))
    (within_is (neg_ℤ (pos (2 ^ 63))) (pos (2 ^ 63 - 1)) (negsuc n))

-- what a parse gives, where a test decides when it gives something
pub ok-where : {T E : Type 0} {P : Type 0} (r : Result T E) (t : Bool) (v : T) → OkIff r P v → Decides t P
    → result_ok r ≡ (if t then Some v else None)
ok-where (Ok x) t v h d = rw (d.1 h.0, h.1) refl
ok-where (Err e) true v h d = absurd (h (d.0 refl))
ok-where (Err e) false v h d = refl

-- a sign is ASCII
pub ascii-signed : (bs : List ℕ) → IsAscii (without_leading_sign bs) → IsAscii bs
ascii-signed [] a = a
ascii-signed (c ∷ cs) a = elim (cases_Bool (c == 45)) [
  | inl m ↦ let e : c ≡ 45 = eqb-true c 45 m in IsAscii-cons c cs (omega arith) (rw m at a)
  | inr n ↦ elim (cases_Bool (c == 43)) [
    | inl p ↦ let e : c ≡ 43 = eqb-true c 43 p in IsAscii-cons c cs (omega arith) (rw (n, p) at a)
    | inr q ↦ rw (n, q) at a
  ]
]

-- nothing, where the test can't hold
pub none-unless : {T : Type 0} {P : Type 0} (t : Bool) (v : T) → Decides t P → ¬ P
    → ◌≡◌ {A = Option T} None (if t then Some v else None)
none-unless true v d n = absurd (n (d.0 refl))
none-unless false v d n = refl

-- a result made by a test
made : {P : Type 0} (t : Bool) (v : ℤ) → Decides t P → OkIff {E = ℕ} (if t then Ok v else Err 0) P v
made true v d = (d.0 refl, refl)
made false v d = λ h. true≢false (sym (d.1 h))

-- a number within bounds that a text spells, by a test of the bounds
abbrev pub signed_of : (ℤ → Bool) → List ℕ → Option ℤ
signed_of test bs =
    if is_numeral (without_leading_sign bs) && test (signed_digits_value 10 bs) then Some (signed_digits_value 10 bs)
    else None

module _ (w : Width) (test : ℤ → Bool) (tells : (z : ℤ) → Decides (test z) (FitsSigned w z)) where
  -- the test of a text decides std's words
  signed-decides : (bs : List ℕ) → Decides (is_numeral (without_leading_sign bs) && test (signed_digits_value 10 bs))
      (IsNumeral 10 (without_leading_sign bs) × FitsSigned w (signed_digits_value 10 bs))
  signed-decides bs =
      Decides-and (is_numeral (without_leading_sign bs)) (test (signed_digits_value 10 bs))
      (numeral-decides (without_leading_sign bs)) (tells (signed_digits_value 10 bs))

  -- what std's parse gives is the number that the text spells
  pub signed-parses : {E : Type 0} (bs : List ℕ) (r : Result ℤ E) → ParsesSigned w 10 bs r
      → result_ok r ≡ signed_of test bs
  signed-parses bs r h =
      ok-where r (is_numeral (without_leading_sign bs) && test (signed_digits_value 10 bs))
      (signed_digits_value 10 bs) h (signed-decides bs)

  -- what is no text spells no number
  pub signed-of-text : (bs : List ℕ) → ¬ (IsUtf8 bs) → ◌≡◌ {A = Option ℤ} None (signed_of test bs)
  signed-of-text bs n =
      none-unless (is_numeral (without_leading_sign bs) && test (signed_digits_value 10 bs))
      (signed_digits_value 10 bs) (signed-decides bs)
      (λ h. n (IsUtf8-from_ascii bs (ascii-signed bs (IsAscii-from_digits (without_leading_sign bs) h.0.1))))

  -- the decimal text of a number within the bounds spells it
  pub signed-decimal : (z : ℤ) → FitsSigned w z → mag z < 2 ^ 63 → signed_of test (signed_decimal z) ≡ Some z
  signed-decimal z f m =
      let bs = signed_decimal z in
      let t = is_numeral (without_leading_sign bs) && test (signed_digits_value 10 bs) in
      let r : Result ℤ ℕ = if t then Ok (signed_digits_value 10 bs) else Err 0 in
      let p = made t (signed_digits_value 10 bs) (signed-decides bs) in
      sym (signed-parses bs r p) ∙ ap result_ok (parse-signed_decimal w z bs r f m refl p)
