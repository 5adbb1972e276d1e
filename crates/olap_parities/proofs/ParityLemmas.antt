-- What a row says of the one variable or the two that it has.
use Rattle.std.proofs.Common.{◌≡◌, ℕ, Bool, true, false, not, [], ◌∷◌, refl, ap, sym, ◌∙◌, subst, arith}
use Rattle.olap_pool.specs.{Literals.{Holds, Satisfies, negation}, declared.literals.Lit.Lit}
use Rattle.olap_parities.specs.Sums.{xor}

-- what is left of a sum after what is true and two parts were taken out is nothing
pub parts_left : (s t odd first second rest : Bool) → s ≡ false → t ≡ xor s odd
    → rest ≡ xor (xor t first) second → rest ≡ false → xor first second ≡ odd
parts_left s t odd first second rest z e f n =
    by_cases odd first second (sym (ap (λ b. xor (xor b first) second) (e ∙ ap (λ b. xor b odd) z)) ∙ sym f ∙ n)
  where
    by_cases : (a b c : Bool) → xor (xor a b) c ≡ false → xor b c ≡ a
    by_cases true true true e = sym e
    by_cases true true false e = refl
    by_cases true false true e = refl
    by_cases true false false e = sym e
    by_cases false b c e = e

-- a clause with one true literal is true
pub one_literal : (v : ℕ → Bool) (l : Lit) → Holds v l → Satisfies v (l ∷ [])
one_literal v l h = (l, (0, omega arith, refl), h)

-- of two variables with this sum, the first is true or the second is the sum
pub first_clause : (v : ℕ → Bool) (x y : ℕ) (odd : Bool) → xor (v x) (v y) ≡ odd
    → Satisfies v (record { variable = x; positive = true } ∷ record { variable = y; positive = odd } ∷ [])
first_clause v x y odd e = split (v x) refl
  where
    split : (b : Bool) → v x ≡ b
        → Satisfies v (record { variable = x; positive = true } ∷ record { variable = y; positive = odd } ∷ [])
    split true h = (record { variable = x; positive = true }, (0, omega arith, refl), h)
    split false h =
        (record { variable = y; positive = odd }, (1, omega arith, refl), sym (ap (λ b. xor b (v y)) h) ∙ e)

-- and the first is false or the second is the other
pub second_clause : (v : ℕ → Bool) (x y : ℕ) (odd : Bool) (l m : Lit)
    → l ≡ negation (record { variable = x; positive = true }) → m ≡ negation (record { variable = y; positive = odd })
    → xor (v x) (v y) ≡ odd → Satisfies v (l ∷ m ∷ [])
second_clause v x y odd l m first second e = split (v x) refl
  where
    back : (s t : Bool) → not s ≡ t → s ≡ not t
    back true true e = sym e
    back true false e = refl
    back false true e = refl
    back false false e = sym e

    split : (b : Bool) → v x ≡ b → Satisfies v (l ∷ m ∷ [])
    split false h = (l, (0, omega arith, refl), subst (λ (n : Lit). Holds v n) (sym first) h)
    split true h =
        let other : v y ≡ not odd = back (v y) odd (sym (ap (λ b. xor b (v y)) h) ∙ e) in
        (m, (1, omega arith, refl), subst (λ (n : Lit). Holds v n) (sym second) other)
