-- The ids of the made members: each is a short ASCII text, and tells the member's place.
--     told_by_number   a letter and a number tell a place of the letter's group
use Rattle.std.proofs.Common.{◌≡◌, ◌≢◌, ◌+◌, ◌-◌, ◌<◌, ◌^◌, ◌==◌, ◌∷◌, true, false, ℕ, zero, suc, List, [], length, decimal, refl, arith, ◌≤◌, ne_eqb, lt-ltb, ltb-true}
use Rattle.std.proofs.lemmas.{Bool.and_parts, Fmt.{IsAscii-decimal, decimal_is_IsNumeral, length-decimal-le}}
use Rattle.std.proofs.lemmas.Str.{IsUtf8-from_ascii, is_utf8-from_IsUtf8, Ascii.IsAscii-cons, Parse.digit_at}
use Rattle.std.specs.{Int.IsInRange, List.{list_all, list_any}, Prelude.{if◌then◌else◌, nat_lt, slice_index}}
use Rattle.std.specs.Str.{IsAscii, Parse.{AllDigits, digits_value}}
use Rattle.olap_base.specs.Limits.{most_text_bytes}
use Rattle.olap_instance.specs.Members.{IsMemberId}
use Rattle.olap_generate.proofs.Made.{canada, canadian_regions, cities, mexican_regions, mexican_states, mexico, provinces, states, top, usa}

-- ---- the place that an id tells

module _ (seed size : ℕ) where
  -- the place of the k-th member of the letter's group
  abbrev pub numbered_place : ℕ → ℕ → ℕ
  numbered_place letter k =
      if letter == 115 then k - 1
      else if letter == 99 then cities seed size + k
      else if letter == 97 then states seed size + k
      else if letter == 98 then mexican_states seed size + k
      else if letter == 112 then provinces seed size + k
      else if letter == 109 then mexican_regions seed size + k
      else canadian_regions seed size + k

  -- the place of the word that the letter begins
  abbrev pub worded_place : ℕ → ℕ
  worded_place letter =
      if letter == 117 then usa seed size
      else if letter == 99 then canada seed size
      else if letter == 109 then mexico seed size
      else top seed size

  -- an id is a letter and a number, or a word: the second byte tells which
  abbrev pub place_told : List ℕ → ℕ
  place_told [] = 0
  place_told (letter ∷ rest) =
      if nat_lt (slice_index rest 0) 58 then numbered_place letter (digits_value 10 rest) else worded_place letter

  pub told_by_number : (letter k : ℕ) → k < 2 ^ 64 → place_told (letter ∷ decimal k) ≡ numbered_place letter k
  told_by_number letter k l =
      let d = decimal_is_IsNumeral k l in
      let first : IsInRange 48 57 (slice_index (decimal k) 0) = digit_at (decimal k) 0 d.0.1 d.0.0 in
      let below : slice_index (decimal k) 0 < 58 = omega arith in
      rw (lt-ltb (slice_index (decimal k) 0) 58 below, d.1) refl

-- ---- texts that may be ids

-- no digit is a semicolon
no_semicolon : (ds : List ℕ) → AllDigits 10 ds → list_any (λ b. b == 59) ds ≡ false
no_semicolon [] d = refl
no_semicolon (c ∷ cs) d =
    let r : IsInRange 48 57 c = digit_at (c ∷ cs) 0 d (omega arith) in
    rw (ne_eqb c 59 (λ e. omega arith)) (no_semicolon cs d.1)

-- a letter and a number in decimal are a member's id
pub numbered_id : (letter k : ℕ) → letter < 128 → letter ≢ 59 → k < 2 ^ 64 → IsMemberId (letter ∷ decimal k)
numbered_id letter k a n l =
    let d = decimal_is_IsNumeral k l in
    let most = length-decimal-le 20 k (omega arith) (omega arith) l in
    record {
      utf8 = is_utf8-from_IsUtf8 (letter ∷ decimal k)
          (IsUtf8-from_ascii (letter ∷ decimal k) (IsAscii-cons letter (decimal k) a (IsAscii-decimal k l)));
      short = omega arith;
      filled = λ e. omega arith;
      whole = rw (ne_eqb letter 59 n) (no_semicolon (decimal k) d.0.1);
    }

-- each byte of an ASCII text is below 128
ascii_at : (text : List ℕ) → list_all (λ b. nat_lt b 128) text ≡ true → IsAscii text
ascii_at [] e i = omega arith
ascii_at (c ∷ cs) e zero = let t : nat_lt c 128 ≡ true = (and_parts _ _ e).0 in ltb-true c 128 t
ascii_at (c ∷ cs) e (suc i) = ascii_at cs (and_parts (nat_lt c 128) _ e).1 i

-- an ASCII text without a semicolon is a member's id, if it is short and not empty
pub worded_id : (text : List ℕ) → list_all (λ b. nat_lt b 128) text ≡ true → list_any (λ b. b == 59) text ≡ false
    → 0 < length text → length text ≤ most_text_bytes → IsMemberId text
worded_id text plain whole some short = record {
  utf8 = is_utf8-from_IsUtf8 text (IsUtf8-from_ascii text (ascii_at text plain));
  short = short;
  filled = λ e. omega arith;
  whole = whole;
}
