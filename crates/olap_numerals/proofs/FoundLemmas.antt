-- What is found is the number that the text spells.
use Rattle.std.proofs.Common.{◌≡◌, ◌∙◌, ◌<◌, ◌≤◌, ◌==◌, ◌&&◌, Bool, true, false, cond, ℕ, ℤ, pos, neg_ℤ, List, [], ◌∷◌, length, Option, Some, None, refl, sym, ap, subst, arith, nat_lt, nat_le}
use Rattle.std.proofs.lemmas.Bool.{eqb-true, Decides.nat_tests}
use Rattle.std.specs.Str.Parse.{signed_digits_value, without_leading_sign}
use Rattle.olap_numerals.proofs.{NumeralLemmas.small_fits, Spelling.is_i64}
use Rattle.olap_numerals.specs.Numerals.{digits_in, most_digits, most_number, number_of}
use Rattle.olap_numerals.specs.{Spelling.{has_plus, is_small, small_of}, Values.{is_numeral, value_of, value_within}}

-- without a plus in front the sign is a `-` or none
same_digits : (text : List ℕ) → has_plus text ≡ false → digits_in text ≡ without_leading_sign text
same_digits [] h = refl
same_digits (b ∷ bs) h = go (b == 45) refl
  where
    go : (m : Bool) → b == 45 ≡ m → digits_in (b ∷ bs) ≡ without_leading_sign (b ∷ bs)
    go true e = rw e refl
    go false e = rw (e, h) refl

-- the narrower test alone decides
chosen : (d s w : Bool) (z : ℤ) → is_small z ≡ s → (s ≡ true → w ≡ true)
    → ◌≡◌ {A = Option ℤ} (small_of (cond (d && w) (Some z) None))
    (cond (d && true) (cond (d && s) (Some z) None) None)
chosen true true true z e f = rw e refl
chosen true true false z e f = absurd (let q = f refl in cc)
chosen true false true z e f = rw e refl
chosen true false false z e f = refl
chosen false s w z e f = refl

-- few digits without a plus: the number of 64 bits, within the bounds
pub found_is : (text : List ℕ) → has_plus text ≡ false → length (digits_in text) ≤ most_digits
    → small_of (value_of text) ≡ number_of text
unfolding number_of
found_is text p l =
    let z = signed_digits_value 10 text in
    let few : nat_le (length (digits_in text)) most_digits ≡ true = grind (arith, nat_tests) in
    let same : is_numeral (digits_in text) ≡ is_numeral (without_leading_sign text) =
    ap is_numeral (same_digits text p) in
    chosen (is_numeral (without_leading_sign text)) (is_small z) (is_i64 z) z refl (small_fits z)
    ∙ rw (few, same) refl

-- a plus is no digit
pub plus_none : (text : List ℕ) → has_plus text ≡ true → number_of text ≡ None
unfolding number_of
plus_none [] h = absurd (cc)
plus_none (b ∷ bs) h = subst (λ c. number_of (c ∷ bs) ≡ None) (sym (eqb-true b 43 h))
    (go (nat_lt 0 (length (43 ∷ bs))) (nat_le (length (43 ∷ bs)) most_digits)
    (value_within (neg_ℤ (pos most_number)) (pos most_number) (43 ∷ bs)))
  where
    go : (a d : Bool) (o : Option ℤ) → ◌≡◌ {A = Option ℤ} (cond ((a && false) && d) o None) None
    go true d o = refl
    go false d o = refl

-- too many digits are no numeral
pub long_none : (text : List ℕ) → most_digits < length (digits_in text) → number_of text ≡ None
unfolding number_of
long_none text l =
    let long : nat_le (length (digits_in text)) most_digits ≡ false = grind (arith, nat_tests) in
    go (is_numeral (digits_in text)) (nat_le (length (digits_in text)) most_digits)
    (value_within (neg_ℤ (pos most_number)) (pos most_number) text) long
  where
    go : (a d : Bool) (o : Option ℤ) → d ≡ false → ◌≡◌ {A = Option ℤ} (cond (a && d) o None) None
    go true true o e = absurd (cc)
    go true false o e = refl
    go false d o e = refl
