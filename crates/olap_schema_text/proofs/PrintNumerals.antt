-- The bytes of canonical numerals.
use Rattle.std.proofs.Common.{◌≡◌, ◌<◌, ◌≤◌, ◌==◌, ◌&&◌, ◌++◌, true, false, ℕ, ℤ, pos, negsuc, suc, List, [], ◌∷◌, length, Some, refl, arith, nat_lt, decimal}
use Rattle.std.proofs.lemmas.{Bool.and_parts, Fmt.decimal_is_IsNumeral_wide, Int.ints}
use Rattle.std.specs.{Char.is_ascii_digit, Str.all_ascii_digits}
use Rattle.olap_base.{proofs.GeneralLemmas.and_without_second, specs.Graph.{IsCategoryName, IsLetter}}
use Rattle.olap_numerals.{proofs.Spelling.own, specs.Numerals.{IsSmall, canonical, digits_in, most_number}}
use Rattle.olap_grammar.specs.{Cutting.{AreWordBytes, is_word_byte}, Grammar.digits_of, Words.is_number_token}
use Rattle.olap_schema_text.proofs.PrintTokens.{number_token}

-- decimal digits, one at least
pub record AreDigits (ds : List ℕ) : Type 0 where
  pub some : 0 < length ds
  pub digits : all_ascii_digits ds ≡ true

-- the digits of a number within the bounds
decimal_digits : (n : ℕ) → n ≤ most_number → AreDigits (decimal n)
decimal_digits n l =
    let d = decimal_is_IsNumeral_wide n (omega arith) in record { some = d.0.0; digits = own.from (decimal n) d.0.1 }

-- the digits of a number that isn't negative
pub digits_in_decimal : (n : ℕ) → IsSmall (pos n) → AreDigits (decimal n)
digits_in_decimal n h = decimal_digits n (omega (arith, ints, h.1))

-- the digits of a negative number
pub digits_behind_dash : (n : ℕ) → IsSmall (negsuc n) → AreDigits (decimal (suc n))
digits_behind_dash n h = decimal_digits (suc n) (omega (arith, ints, h.0))

-- ---- digits

-- the first digit, and the others
pub first_digit : (b : ℕ) (ds : List ℕ) → AreDigits (b ∷ ds)
    → (is_ascii_digit b ≡ true) × (all_ascii_digits ds ≡ true)
first_digit b ds h = and_parts (is_ascii_digit b) (all_ascii_digits ds) h.digits

-- a digit is a byte of words
digit_is_word : (b : ℕ) → is_ascii_digit b ≡ true → is_word_byte b ≡ true
digit_is_word b h = grind arith

-- and no `-`
digit_no_dash : (b : ℕ) → is_ascii_digit b ≡ true → (b == 45) ≡ false
digit_no_dash b h = grind arith

-- digits are word bytes
pub digits_are_word : (ds : List ℕ) → all_ascii_digits ds ≡ true → AreWordBytes ds
digits_are_word [] e = tt
digits_are_word (b ∷ ds) e =
    let h = and_parts (is_ascii_digit b) (all_ascii_digits ds) e in
    (digit_is_word b h.0, digits_are_word ds h.1)

-- ---- number tokens

-- digits pass the tests of a number
tested : (ds : List ℕ) → AreDigits ds → nat_lt 0 (length ds) && all_ascii_digits ds ≡ true
tested ds h =
    let l = h.some in
    let some : nat_lt 0 (length ds) ≡ true = grind arith in
    rw (some, h.digits) refl

-- and have no sign
no_dash : (ds : List ℕ) → AreDigits ds → digits_in ds ≡ ds
no_dash [] h = refl
no_dash (b ∷ ds) h = let n = digit_no_dash b (first_digit b ds h).0 in rw n refl

-- a canonical numeral is a number token
pub numeral_is_number : (z : ℤ) → IsSmall z → is_number_token (canonical z) ≡ true
unfolding is_number_token
numeral_is_number (pos n) h = let d = digits_in_decimal n h in rw (no_dash (decimal n) d) (tested (decimal n) d)
numeral_is_number (negsuc n) h = tested (decimal (suc n)) (digits_behind_dash n h)

-- the digits of its token are the numeral
pub token_digits : (z : ℤ) → digits_of (number_token z) ≡ Some (canonical z)
token_digits (pos n) = refl
token_digits (negsuc n) = refl

-- a letter is no `-`
letter_no_dash : (b : ℕ) → IsLetter b → (b == 45) ≡ false
letter_no_dash b h = grind arith

-- nor a digit
letter_no_digit : (b : ℕ) → IsLetter b → is_ascii_digit b ≡ false
letter_no_digit b h = grind arith

-- a word that begins with a category's name is no number token
pub no_number : (name others : List ℕ) → IsCategoryName name → is_number_token (name ++ others) ≡ false
unfolding is_number_token
no_number [] others n = absurd n
no_number (b ∷ name) others n =
    rw (letter_no_dash b n.0)
    (and_without_second (nat_lt 0 (length (b ∷ (name ++ others)))) (is_ascii_digit b)
    (all_ascii_digits (name ++ others))
    (letter_no_digit b n.0))
