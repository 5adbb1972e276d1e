-- Marks in bytes, and numbers that bytes spell.
use Rattle.std.proofs.Common.{◌≡◌, ℕ, ◌<◌, ◌≤◌, ◌^◌, List, length, take, get_or, Result, Ok, Err, sym, ap, subst, ◌∙◌, arith}
use Rattle.std.proofs.lemmas.{Fmt.{IsAscii-decimal, parse-decimal}, List.{get_or-take, get_or_default, length-take-le}}
use Rattle.std.{proofs.lemmas.Str.IsUtf8-from_ascii, specs.Fmt.decimal, specs.Prelude.Contains, specs.Str.IsUtf8}
use Rattle.std.specs.Str.Parse.{ParsesUnsigned}

-- no mark stands in all of the bytes
pub none_within : (bytes : List ℕ) (mark i : ℕ) → length bytes ≤ i
    → ((k : ℕ) → k < i → get_or bytes k 0 ≡ mark → ⊥) → Contains bytes mark → ⊥
none_within bytes mark i l none c =
    none c.0 (let a = c.1 in omega arith) (get_or_default bytes c.0 0 mark c.1 ∙ c.2)

-- nor in those before this place
pub none_before : (bytes : List ℕ) (mark i : ℕ) → i ≤ length bytes
    → ((k : ℕ) → k < i → get_or bytes k 0 ≡ mark → ⊥) → Contains (take i bytes) mark → ⊥
none_before bytes mark i l none c =
    let a : c.0 < i = subst (λ n. c.0 < n) (length-take-le i bytes l) c.1 in
    none c.0 a (get_or_default bytes c.0 0 mark (omega arith) ∙ sym (get_or-take i bytes c.0 mark a) ∙ c.2)

-- what isn't read is no number
pub err_unspelled : {E : Type 0} (bytes : List ℕ) (e : E) → ParsesUnsigned 64 10 bytes (Err e) → (n : ℕ) → n < 2 ^ 64
    → decimal n ≡ bytes → ⊥
err_unspelled {E} bytes e p n l s =
    let r : Result ℕ E = Err e in
    let q : r ≡ Ok n = parse-decimal 64 n bytes r l l (sym s) p in cc

-- nor is what is read, if that number is spelled otherwise
pub ok_unspelled : {E : Type 0} (bytes : List ℕ) (m : ℕ) (r : Result ℕ E) → r ≡ Ok m → ParsesUnsigned 64 10 bytes r
    → (decimal m ≡ bytes → ⊥) → (n : ℕ) → n < 2 ^ 64 → decimal n ≡ bytes → ⊥
ok_unspelled bytes m r o p not n l s =
    let q : r ≡ Ok n = parse-decimal 64 n bytes r l l (sym s) p in
    let same : m ≡ n = cc in not (ap decimal same ∙ s)

-- nor is what isn't UTF-8
pub text_unspelled : (bytes : List ℕ) → (IsUtf8 bytes → ⊥) → (n : ℕ) → n < 2 ^ 64 → decimal n ≡ bytes → ⊥
text_unspelled bytes u n l s = u (subst (λ b. IsUtf8 b) s (IsUtf8-from_ascii (decimal n) (IsAscii-decimal n l)))
