-- One bit of a word: of two words joined bit by bit, and of a word that isn't 0.
use Rattle.std.proofs.Common.{◌≡◌, ℕ, zero, suc, ◌+◌, ◌-◌, ◌/◌, ◌%◌, ◌^◌, ◌<◌, max, min, Bool, false, not, ◌&&◌, ◌||◌, eqb, refl, ap, ◌∙◌, arith}
use Rattle.std.proofs.{Math.Nat.mod-lt, lemmas.Nat.{ones_cat, mod-pow-add, pow_pos}}
use Rattle.std.proofs.lemmas.Nat.Bits.{bit_at_and, bit_at_or, bit_at_not, bit_at-lt, bit_at-zero}
use Rattle.std.specs.{Int.{bit_at, bit_not, w64}, Prelude.{bit_and, bit_or, count_ones}}
use lib.Count.{ones, ones_in}

-- the bit at this place is 1
abbrev pub is_one : ℕ → ℕ → Bool
is_one word i = eqb (bit_at word i) 1

-- the three joins of two bits
or_of : (a b : ℕ) → a < 2 → b < 2 → eqb (max a b) 1 ≡ (eqb a 1 || eqb b 1)
or_of zero zero p q = refl
or_of zero (suc zero) p q = refl
or_of zero (suc (suc b)) p q = absurd (omega arith)
or_of (suc zero) zero p q = refl
or_of (suc zero) (suc zero) p q = refl
or_of (suc zero) (suc (suc b)) p q = absurd (omega arith)
or_of (suc (suc a)) b p q = absurd (omega arith)

-- of two bits both are 1 exactly if the lesser is
and_of : (a b : ℕ) → a < 2 → b < 2 → eqb (min a b) 1 ≡ (eqb a 1 && eqb b 1)
and_of zero zero p q = refl
and_of zero (suc zero) p q = refl
and_of zero (suc (suc b)) p q = absurd (omega arith)
and_of (suc zero) zero p q = refl
and_of (suc zero) (suc zero) p q = refl
and_of (suc zero) (suc (suc b)) p q = absurd (omega arith)
and_of (suc (suc a)) b p q = absurd (omega arith)

-- a bit stays 1 exactly if the other is 0
without_of : (a b : ℕ) → a < 2 → b < 2 → eqb (min a (1 - b)) 1 ≡ (eqb a 1 && not (eqb b 1))
without_of zero zero p q = refl
without_of zero (suc zero) p q = refl
without_of zero (suc (suc b)) p q = absurd (omega arith)
without_of (suc zero) zero p q = refl
without_of (suc zero) (suc zero) p q = refl
without_of (suc zero) (suc (suc b)) p q = absurd (omega arith)
without_of (suc (suc a)) b p q = absurd (omega arith)

-- the bits of words joined by `or`
pub is_one-or : (a b i : ℕ) → is_one (bit_or a b) i ≡ (is_one a i || is_one b i)
is_one-or a b i = ap (λ n. eqb n 1) (bit_at_or a b i) ∙ or_of _ _ (bit_at-lt a i) (bit_at-lt b i)

-- the bits of words joined by `and`
pub is_one-and : (a b i : ℕ) → is_one (bit_and a b) i ≡ (is_one a i && is_one b i)
is_one-and a b i = ap (λ n. eqb n 1) (bit_at_and a b i) ∙ and_of _ _ (bit_at-lt a i) (bit_at-lt b i)

-- the bits of words joined by `and not`
pub is_one-without : (a b i : ℕ) → b < 2 ^ 64 → i < 64
    → is_one (bit_and a (bit_not w64 b)) i ≡ (is_one a i && not (is_one b i))
is_one-without a b i within h =
    ap (λ n. eqb n 1) (bit_at_and a (bit_not w64 b) i ∙ ap (λ n. min (bit_at a i) n) (bit_at_not w64 b i within h))
    ∙ without_of _ _ (bit_at-lt a i) (bit_at-lt b i)

-- 0 has no bits
pub is_one-zero : (i : ℕ) → is_one 0 i ≡ false
is_one-zero i = ap (λ n. eqb n 1) (bit_at-zero i)

-- a bit has as many ones as it says
ones_of : (a : ℕ) → a < 2 → count_ones a ≡ a
unfolding ones ones_in
ones_of zero p = refl
ones_of (suc zero) p = refl
ones_of (suc (suc a)) p = absurd (omega arith)

-- the count of no bits
pub count_ones-zero : count_ones 0 ≡ 0
count_ones-zero = ones_of 0 (omega arith)

-- one more bit of a word
pub count_ones-more : (word i : ℕ) → count_ones (word % 2 ^ (i + 1)) ≡ bit_at word i + count_ones (word % 2 ^ i)
count_ones-more word i =
    let e : i + 1 ≡ 1 + i = omega arith in
    ap (λ m. count_ones (word % 2 ^ m)) e
    ∙ ap count_ones (mod-pow-add word 1 i)
    ∙ ones_cat i (word / 2 ^ i % 2) (word % 2 ^ i) (mod-lt word (pow_pos i))
    ∙ ap (λ m. m + count_ones (word % 2 ^ i)) (ones_of _ (bit_at-lt word i))
