-- Sums modulo 2.
use Rattle.std.proofs.Common.{◌≡◌, ℕ, zero, suc, ◌<◌, ◌≤◌, Bool, true, false, ◌&&◌, inl, inr, eqb, refl, ap, sym, ◌∙◌, arith}
use Rattle.std.proofs.{Math.Path.ap₂, lemmas.Bool.{cases_eq, eq-eqb, ne_eqb}}
use Rattle.olap_parities.specs.Sums.{xor, sum_below}

-- nothing is added
pub xor-false : (a : Bool) → xor a false ≡ a
xor-false true = refl
xor-false false = refl

-- two sums added part by part
pub xor_parts : (a b c d : Bool) → xor (xor a b) (xor c d) ≡ xor (xor a c) (xor b d)
xor_parts true true true true = refl
xor_parts true true true false = refl
xor_parts true true false true = refl
xor_parts true true false false = refl
xor_parts true false true true = refl
xor_parts true false true false = refl
xor_parts true false false true = refl
xor_parts true false false false = refl
xor_parts false true true true = refl
xor_parts false true true false = refl
xor_parts false true false true = refl
xor_parts false true false false = refl
xor_parts false false c d = refl

-- what is chosen by either of two alone
pub xor_chosen : (a b c : Bool) → (xor a b && c) ≡ xor (a && c) (b && c)
xor_chosen true true true = refl
xor_chosen true true false = refl
xor_chosen true false c = sym (xor-false c)
xor_chosen false b c = refl

module _ (w : ℕ → Bool) where
  -- the same columns have the same sum
  pub sum-same : (f g : ℕ → Bool) → ((k : ℕ) → f k ≡ g k) → (n : ℕ) → sum_below w f n ≡ sum_below w g n
  unfolding sum_below
  sum-same f g e zero = refl
  sum-same f g e (suc n) = ap₂ xor (sum-same f g e n) (ap (λ b. b && w n) (e n))

  -- no columns have no sum
  pub sum-none : (f : ℕ → Bool) → ((k : ℕ) → f k ≡ false) → (n : ℕ) → sum_below w f n ≡ false
  unfolding sum_below
  sum-none f e zero = refl
  sum-none f e (suc n) = ap₂ xor (sum-none f e n) (ap (λ b. b && w n) (e n))

  -- columns that are chosen by either of two alone have their two sums' sum
  pub sum-xor : (f g : ℕ → Bool) (n : ℕ)
      → sum_below w (λ k. xor (f k) (g k)) n ≡ xor (sum_below w f n) (sum_below w g n)
  unfolding sum_below
  sum-xor f g zero = refl
  sum-xor f g (suc n) =
      ap₂ xor (sum-xor f g n) (xor_chosen (f n) (g n) (w n))
      ∙ xor_parts (sum_below w f n) (sum_below w g n) (f n && w n) (g n && w n)

  -- before the one column that is chosen
  sum-before : (k n : ℕ) → n ≤ k → sum_below w (λ j. eqb j k) n ≡ false
  unfolding sum_below
  sum-before k zero h = refl
  sum-before k (suc n) h =
      ap₂ xor (sum-before k n (omega arith)) (ap (λ b. b && w n) (ne_eqb n k (λ e. omega arith)))

  -- one column has its value as its sum
  pub sum-one : (k n : ℕ) → k < n → sum_below w (λ j. eqb j k) n ≡ w k
  unfolding sum_below
  sum-one k zero h = absurd (omega arith)
  sum-one k (suc n) h = elim (cases_eq n k) [
    | inl e ↦
        ap₂ xor (sum-before k n (omega arith)) (ap (λ b. b && w n) (eq-eqb n k e)) ∙ ap w e
    | inr ne ↦
        ap₂ xor (sum-one k n (omega arith)) (ap (λ b. b && w n) (ne_eqb n k ne)) ∙ xor-false (w k)
  ]
