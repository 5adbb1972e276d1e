-- The bytes of printed lines: UTF-8 without control characters.
--     formula_is_plain  and so on: what is printed is one
use Rattle.std.proofs.Common.{◌≡◌, ◌==◌, ◌||◌, not, ◌<◌, ◌≤◌, ◌+◌, ◌/◌, ◌%◌, ℕ, zero, suc, Bool, true, false, cond, List, [], ◌∷◌, ◌++◌, All, refl, append_assoc, append-nil, arith, ap, sym, ◌∙◌, nat_lt, lit<, flat_map}
use Rattle.std.proofs.lemmas.Bool.{and_parts, not-false, or_parts}
use Rattle.std.proofs.lemmas.List.Elements.{All-from_recursion, All-head, All-tail}
use Rattle.std.proofs.lemmas.Str.{IsUtf8-append, IsUtf8-from_ascii, IsUtf8-from_is_utf8, IsUtf8-nil, is_utf8-from_IsUtf8, encode_ascii}
use Rattle.std.specs.{List.list_any, Str.{IsAscii, IsUtf8, is_utf8}}
use Rattle.olap_grammar.specs.Quoting.{escaped_byte}
use Rattle.olap_schema.specs.Readable.{is_bad, is_control}
use lib.Utf8.{encode, encodes, scalar, scalars}

-- UTF-8 without control characters
pub record IsPlain (text : List ℕ) : Type 0 where
  pub utf8 : IsUtf8 text
  pub plain : list_any is_control text ≡ false

-- plain text isn't refused
pub not_bad : (text : List ℕ) → IsPlain text → is_bad text ≡ false
not_bad text p = rw (is_utf8-from_IsUtf8 text p.utf8, p.plain) refl

-- and what isn't refused is plain
pub from_not_bad : (text : List ℕ) → is_bad text ≡ false → IsPlain text
from_not_bad text e =
    let t = or_parts (not (is_utf8 text)) (list_any is_control text) e in
    record { utf8 = IsUtf8-from_is_utf8 text (not-false _ t.0); plain = t.1 }

-- none of two lists, none of both together
pub none-append : {A : Type 0} (p : A → Bool) (xs ys : List A) → list_any p xs ≡ false → list_any p ys ≡ false
    → list_any p (xs ++ ys) ≡ false
none-append p [] ys d e = e
none-append p (x ∷ xs) ys d e =
    let t = or_parts (p x) (list_any p xs) d in rw t.0 (none-append p xs ys t.1 e)

-- two plain texts are plain together
pub plain-append : (xs ys : List ℕ) → IsPlain xs → IsPlain ys → IsPlain (xs ++ ys)
plain-append xs ys p q = record {
  utf8 = IsUtf8-append xs ys p.utf8 q.utf8;
  plain = none-append is_control xs ys p.plain q.plain;
}

-- nothing is plain
pub plain-nil : IsPlain []
plain-nil = record { utf8 = IsUtf8-nil; plain = refl }

-- a byte below 128 is ASCII
ascii_one : (b : ℕ) → b < 128 → IsAscii (b ∷ [])
ascii_one b l zero = l
ascii_one b l (suc k) = omega arith

-- a printable ASCII character in front
pub plain-cons : (b : ℕ) (bs : List ℕ) → b < 127 → 32 ≤ b → IsPlain bs → IsPlain (b ∷ bs)
plain-cons b bs l m p =
    plain-append (b ∷ []) bs
    (record { utf8 = IsUtf8-from_ascii (b ∷ []) (ascii_one b (omega arith)); plain = rw control refl }) p
  where
    control : is_control b ≡ false
    control = grind arith

-- ---- strings

-- a string is escaped part by part
escaped-append : (xs ys : List ℕ) → flat_map escaped_byte (xs ++ ys)
    ≡ flat_map escaped_byte xs ++ flat_map escaped_byte ys
escaped-append [] ys = refl
escaped-append (x ∷ xs) ys =
    ap (λ t. escaped_byte x ++ t) (escaped-append xs ys)
    ∙ sym (append_assoc (escaped_byte x) (flat_map escaped_byte xs) (flat_map escaped_byte ys))

-- bytes that aren't ASCII stay
high_stay : (bs : List ℕ) → All (λ b. 128 ≤ b) bs → flat_map escaped_byte bs ≡ bs
high_stay [] a = refl
high_stay (b ∷ bs) a =
    let l = All-head (λ b. 128 ≤ b) b bs a in
    let p : (b == 34) ≡ false = grind arith in
    let q : (b == 92) ≡ false = grind arith in
    rw (p, q) (ap (λ t. b ∷ t) (high_stay bs (All-tail (λ b. 128 ≤ b) b bs a)))

-- other characters have no byte below 128
high_encode : (c : ℕ) → nat_lt c 128 ≡ false → All (λ b. 128 ≤ b) (encode c)
unfolding encode
high_encode c e = rw e (go (nat_lt c 2048) (nat_lt c 65536))
  where
    go : (p q : Bool)
        → All (λ b. 128 ≤ b) (cond p ((192 + c / 64) ∷ (128 + c % 64) ∷ [])
        (cond q ((224 + c / 4096) ∷ (128 + (c / 64) % 64) ∷ (128 + c % 64) ∷ [])
        ((240 + c / 262144) ∷ (128 + (c / 4096) % 64) ∷ (128 + (c / 64) % 64) ∷ (128 + c % 64) ∷ [])))
    go true q =
        All-from_recursion (λ b. 128 ≤ b) ((192 + c / 64) ∷ (128 + c % 64) ∷ []) (omega arith, (omega arith, tt))
    go false true =
        All-from_recursion (λ b. 128 ≤ b) ((224 + c / 4096) ∷ (128 + (c / 64) % 64) ∷ (128 + c % 64) ∷ [])
        (omega arith, (omega arith, (omega arith, tt)))
    go false false =
        All-from_recursion (λ b. 128 ≤ b)
        ((240 + c / 262144) ∷ (128 + (c / 4096) % 64) ∷ (128 + (c / 64) % 64) ∷ (128 + c % 64) ∷ [])
        (omega arith, (omega arith, (omega arith, (omega arith, tt))))

-- two bytes below 128 are ASCII
ascii_two : (a b : ℕ) → a < 128 → b < 128 → IsAscii (a ∷ b ∷ [])
ascii_two a b l m zero = l
ascii_two a b l m (suc zero) = m
ascii_two a b l m (suc (suc k)) = omega arith

-- one character, escaped, is UTF-8
one_utf8 : (c : ℕ) → scalar c ≡ true → IsUtf8 (flat_map escaped_byte (encode c))
one_utf8 c s = go (nat_lt c 128) refl
  where
    byte : (p : Bool) → c < 128 → IsUtf8 (cond p (92 ∷ c ∷ []) (c ∷ []) ++ [])
    byte true l = IsUtf8-from_ascii (92 ∷ c ∷ []) (ascii_two 92 c (lit< tt) l)
    byte false l = IsUtf8-from_ascii (c ∷ []) (ascii_one c l)

    go : (b : Bool) → nat_lt c 128 ≡ b → IsUtf8 (flat_map escaped_byte (encode c))
    go true e = let l : c < 128 = grind (arith) in rw (encode_ascii c l) (byte ((c == 34) || (c == 92)) l)
    go false e =
        let same = high_stay (encode c) (high_encode c e) in rw same (c ∷ [], (rw s refl, append-nil (encode c)))

-- and so are several
all_utf8 : (cs : List ℕ) → scalars cs ≡ true → IsUtf8 (flat_map escaped_byte (encodes cs))
all_utf8 [] e = IsUtf8-nil
all_utf8 (c ∷ cs) e =
    let t = and_parts (scalar c) (scalars cs) e in
    rw (escaped-append (encode c) (encodes cs)) (IsUtf8-append (flat_map escaped_byte (encode c))
    (flat_map escaped_byte (encodes cs)) (one_utf8 c t.0) (all_utf8 cs t.1))

-- so a text of UTF-8 is so when it is escaped
escaped_utf8 : (k : List ℕ) → IsUtf8 k → IsUtf8 (flat_map escaped_byte k)
escaped_utf8 k u = rw u.1.1 at (all_utf8 u.0 u.1.0)

-- and one without control characters has none
escaped_controls : (k : List ℕ) → list_any is_control k ≡ false → list_any is_control (flat_map escaped_byte k) ≡ false
escaped_controls [] e = refl
escaped_controls (b ∷ k) e =
    let t = or_parts (is_control b) (list_any is_control k) e in
    go ((b == 34) || (b == 92)) t.0 (escaped_controls k t.1)
  where
    go : (p : Bool) → is_control b ≡ false → list_any is_control (flat_map escaped_byte k) ≡ false
        → list_any is_control (cond p (92 ∷ b ∷ []) (b ∷ []) ++ flat_map escaped_byte k) ≡ false
    go true q r = rw q r
    go false q r = rw q r

-- a plain text is plain when it is escaped
pub escaped_plain : (k : List ℕ) → IsPlain k → IsPlain (flat_map escaped_byte k)
escaped_plain k p = record { utf8 = escaped_utf8 k p.utf8; plain = escaped_controls k p.plain }
