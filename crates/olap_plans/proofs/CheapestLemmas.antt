-- Of the masks below a bound that have a property that can be decided, one is the cheapest, or none has it.
use Rattle.std.{proofs.Common.{ℕ, zero, suc, ◌<◌, ◌≤◌, List, refl, sym, subst, inl, inr, arith}, specs.Prelude.◌⊎◌}
use Rattle.olap_base.{proofs.GeneralLemmas.{at_most_or_greater, same_or_below_suc, less_or_equal}, specs.Views.View}
use Rattle.olap_nav.specs.Plans.{IsNoDearer, rows_in}

-- m is the cheapest mask below n that has the property
pub record IsCheapest (views : List (View ℕ ℕ)) (P : ℕ → Type 0) (n m : ℕ) : Type 0 where
  pub has : P m
  pub below : m < n
  pub cheapest : (j : ℕ) → j < n → P j → IsNoDearer views m j

module _ (views : List (View ℕ ℕ)) (P : ℕ → Type 0) (d : (m : ℕ) → Dec (P m)) where
  -- one is the cheapest, or none below n has the property
  abbrev pub Found : ℕ → Type 0
  Found n = ((m : ℕ) × IsCheapest views P n m) ⊎ ((j : ℕ) → j < n → P j → ⊥)

  -- n has it too: what is the cheapest below n stays it, or n is
  later : (n m : ℕ) → IsCheapest views P n m → P n → Found (suc n)
  later n m b p = elim (at_most_or_greater (rows_in views m) (rows_in views n)) [
    | inl l ↦ inl (m, record { has = b.has; below = (let h = b.below in omega (arith, h)); cheapest = kept l })
    | inr l ↦ inl (n, record { has = p; below = omega arith; cheapest = new l })
  ]
    where
      kept : rows_in views m ≤ rows_in views n → (j : ℕ) → j < suc n → P j → IsNoDearer views m j
      kept l j h q = elim (same_or_below_suc j n h) [
        | inl e ↦ subst (λ x. IsNoDearer views m x) (sym e)
            (elim (less_or_equal (rows_in views m) (rows_in views n) l) [
              | inl less ↦ inl less
              | inr same ↦ inr (same, (let w = b.below in omega (arith, w)))
            ])
        | inr below ↦ b.cheapest j below q
      ]

      cheaper : rows_in views n < rows_in views m → (j : ℕ) → IsNoDearer views m j → IsNoDearer views n j
      cheaper l j (inl less) = inl (omega arith)
      cheaper l j (inr t) = let e = t.0 in inl (omega (arith, e))

      new : rows_in views n < rows_in views m → (j : ℕ) → j < suc n → P j → IsNoDearer views n j
      new l j h q = elim (same_or_below_suc j n h) [
        | inl e ↦ subst (λ x. IsNoDearer views n x) (sym e) (inr (refl, omega arith))
        | inr below ↦ cheaper l j (b.cheapest j below q)
      ]

  pub find : (n : ℕ) → Found n
  find zero = inr (λ j l p. absurd (omega arith))
  find (suc n) = go (find n) (d n)
    where
      go : Found n → Dec (P n) → Found (suc n)
      go (inl t) (yes p) = later n t.0 t.1 p
      go (inl t) (no m) = inl (
        t.0,
        record {
          has = t.1.has;
          below = (let h = t.1.below in omega (arith, h));
          cheapest = λ j h q. elim (same_or_below_suc j n h) [
            | inl e ↦ absurd (m (subst P e q))
            | inr below ↦ t.1.cheapest j below q
          ];
        },
      )
      go (inr f) (yes p) = inl (
        n,
        record {
          has = p;
          below = omega arith;
          cheapest = λ j h q. elim (same_or_below_suc j n h) [
            | inl e ↦ subst (λ x. IsNoDearer views n x) (sym e) (inr (refl, omega arith))
            | inr below ↦ absurd (f j below q)
          ];
        },
      )
      go (inr f) (no m) = inr (λ j h q. elim (same_or_below_suc j n h) [
        | inl e ↦ m (subst P e q)
        | inr below ↦ f j below q
      ])
