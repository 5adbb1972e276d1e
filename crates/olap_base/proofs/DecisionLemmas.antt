-- What can be decided, beyond the specs: connectives, and what holds below a number.
use Rattle.std.proofs.Common.{◌≡◌, ℕ, zero, suc, ◌<◌, Bool, true, false, refl, sym, subst, inl, inr, arith}
use Rattle.std.specs.Prelude.{◌⊎◌, ◌↔◌}
use Rattle.olap_base.{proofs.GeneralLemmas.same_or_below_suc, specs.Deciding.{dec_and, dec_iff, dec_or}}

-- whether A fails
pub dec_not : {A : Type 0} → Dec A → Dec (A → ⊥)
dec_not (yes a) = no (λ f. f a)
dec_not (no n) = yes n

-- whether A implies B
pub dec_implies : {A B : Type 0} → Dec A → Dec B → Dec (A → B)
dec_implies (no n) d = yes (λ a. absurd (n a))
dec_implies (yes a) (yes b) = yes (λ c. b)
dec_implies (yes a) (no m) = no (λ f. m (f a))

-- whether both directions hold
pub dec_both : {A B : Type 0} → Dec A → Dec B → Dec (A ↔ B)
dec_both d e = dec_iff (λ t. (t.0, t.1)) (λ t. (t.0, t.1)) (dec_and (dec_implies d e) (dec_implies e d))

-- whether P holds of all numbers below n
pub dec_below : (P : ℕ → Type 0) → ((k : ℕ) → Dec (P k)) → (n : ℕ) → Dec ((k : ℕ) → k < n → P k)
dec_below P d zero = yes (λ k l. absurd (omega arith))
dec_below P d (suc n) =
    dec_iff (λ t k l. elim (same_or_below_suc k n l) [ inl e ↦ subst P (sym e) t.1 | inr h ↦ t.0 k h ])
    (λ f. (λ k l. f k (omega arith), f n (omega arith))) (dec_and (dec_below P d n) (d n))

-- whether P holds of some number below n
pub dec_some_below : (P : ℕ → Type 0) → ((k : ℕ) → Dec (P k)) → (n : ℕ) → Dec ((k : ℕ) × (k < n) × P k)
dec_some_below P d zero = no (λ t. let l = t.1 in absurd (omega arith))
dec_some_below P d (suc n) =
    dec_iff up down (dec_or (dec_some_below P d n) (d n))
  where
    up : ((k : ℕ) × (k < n) × P k) ⊎ P n → (k : ℕ) × (k < suc n) × P k
    up (inl t) = (t.0, (let l = t.1 in omega arith), t.2)
    up (inr p) = (n, omega arith, p)

    down : (k : ℕ) × (k < suc n) × P k → ((k : ℕ) × (k < n) × P k) ⊎ P n
    down t = elim (same_or_below_suc t.0 n t.1) [ inl e ↦ inr (subst P e t.2) | inr h ↦ inl (t.0, h, t.2) ]

-- whether two bits are equal
pub dec_bit : (a b : Bool) → Dec (a ≡ b)
dec_bit true true = yes refl
dec_bit true false = no (λ e. cc)
dec_bit false true = no (λ e. cc)
dec_bit false false = yes refl

-- what can be decided and isn't false holds
pub stable : {P : Type 0} → Dec P → ((P → ⊥) → ⊥) → P
stable (yes p) f = p
stable (no n) f = absurd (f n)
