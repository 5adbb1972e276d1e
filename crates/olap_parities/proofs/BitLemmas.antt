-- One bit of a word, and the bits of two words that are added bit by bit.
use Rattle.std.proofs.Common.{◌≡◌, ℕ, zero, suc, ◌+◌, ◌%◌, ◌^◌, ◌<◌, Bool, false, inl, inr, eqb, refl, ap, sym, ◌∙◌, arith}
use Rattle.std.proofs.lemmas.Bool.{cases_eq, eq-eqb, ne_eqb}
use Rattle.std.proofs.lemmas.Nat.Bits.{bit_at_xor, bit_at-lt, bit_at-zero, bit_at-pow_same, bit_at-pow_other}
use Rattle.std.specs.{Int.bit_at, Prelude.bit_xor}
use Rattle.olap_parities.specs.Sums.{xor}

-- the bit at this place is 1
abbrev pub is_one : ℕ → ℕ → Bool
is_one word i = eqb (bit_at word i) 1

-- the sum of two bits
xor_of : (a b : ℕ) → a < 2 → b < 2 → eqb ((a + b) % 2) 1 ≡ xor (eqb a 1) (eqb b 1)
xor_of zero zero p q = refl
xor_of zero (suc zero) p q = refl
xor_of zero (suc (suc b)) p q = absurd (omega arith)
xor_of (suc zero) zero p q = refl
xor_of (suc zero) (suc zero) p q = refl
xor_of (suc zero) (suc (suc b)) p q = absurd (omega arith)
xor_of (suc (suc a)) b p q = absurd (omega arith)

-- the bits of words that are added bit by bit
pub is_one-xor : (a b i : ℕ) → is_one (bit_xor a b) i ≡ xor (is_one a i) (is_one b i)
is_one-xor a b i = ap (λ n. eqb n 1) (bit_at_xor a b i) ∙ xor_of _ _ (bit_at-lt a i) (bit_at-lt b i)

-- 0 has no bits
pub is_one-zero : (i : ℕ) → is_one 0 i ≡ false
is_one-zero i = ap (λ n. eqb n 1) (bit_at-zero i)

-- the one bit of a power of 2
pub is_one-pow : (k i : ℕ) → is_one (2 ^ k) i ≡ eqb i k
is_one-pow k i = elim (cases_eq i k) [
  | inl e ↦ ap (λ j. is_one (2 ^ k) j) e ∙ ap (λ n. eqb n 1) (bit_at-pow_same k) ∙ sym (eq-eqb i k e)
  | inr ne ↦ ap (λ n. eqb n 1) (bit_at-pow_other k i ne) ∙ sym (ne_eqb i k ne)
]
