-- Both of two literals, and exactly one of two: where no variable is wanted, and the clauses of the variable.
use Rattle.std.proofs.{Common.{◌≡◌, ℕ, ◌<◌, [], ◌∷◌, length, get_or, ap, sym, subst, ◌∙◌}, lemmas.List.get_or_default}
use Rattle.olap_ast.specs.Frozen.{Frozen}
use Rattle.olap_pool.specs.{Literals.{Holds, negation}, declared.literals.Lit.Lit}
use Rattle.olap_encoding.proofs.GivenLemmas.{known_negated, given_implies, says_as, always_says, never_says}
use Rattle.olap_encoding.proofs.Growing.{meaning_says}
use Rattle.olap_encoding.proofs.LiteralLemmas.{negated_is, negated_as, value_cases, where_true, where_false}
use Rattle.olap_encoding.specs.Encoding.{Encoding, Stands, IsKnown, Says, IsGiven, IsSound, MeaningIs, BothAre, EitherIs}
use Rattle.olap_encoding.specs.{Literals.{Valuation, plain, always, never}, declared.meanings.Meaning.Meaning}
use Rattle.olap_encoding.specs.declared.meanings.Meaning.TheVariants.{Always, Both}

-- ---- both of two literals, where no variable is wanted

module _ (e : Encoding) (t : IsSound e) (a b : Lit) where
  pub never_first : a ≡ never → Says e never (BothAre a b)
  never_first q = says_as e never (never_says e t)
      (λ f v h. (λ x. absurd x, λ u. ((never_says e t).exactly f v h).0 (subst (λ l. Holds v l) q u.0)))

  pub never_opposite : (n : Lit) → n ≡ negation b → a ≡ n → Says e never (BothAre a b)
  never_opposite n q p = says_as e never (never_says e t)
      (λ f v h. (λ x. absurd x, λ u. (negated_is v b).0 (subst (λ l. Holds v l) (p ∙ q) u.0) u.1))

  pub always_first : IsKnown e b → a ≡ always → Says e b (BothAre a b)
  always_first k q = record {
    known = k;
    exactly = λ f v h. (λ x. (subst (λ l. Holds v l) (sym q) (((always_says e t).exactly f v h).1 tt), x), λ u. u.1);
  }

  pub same_twice : IsKnown e b → a ≡ b → Says e b (BothAre a b)
  same_twice k q = record { known = k; exactly = λ f v h. (λ x. (subst (λ l. Holds v l) (sym q) x, x), λ u. u.1) }

-- the variable of a gate says what the gate means
pub gate_says : (e : Encoding) (x : ℕ) (c d a b : Lit) (m : Meaning) → x < length e.meanings → m ≡ get_or e.meanings x m
    → m ≡ Both c d → c ≡ a → d ≡ b → Says e (plain x) (BothAre a b)
gate_says e x c d a b m h r q y z = subst (λ (k : Meaning). Says e (plain x) (MeaningIs k))
    (get_or_default e.meanings x Always m h ∙ sym r ∙ q ∙ ap (λ i. Both i d) y ∙ ap (λ i. Both a i) z)
    (meaning_says e x h)

-- both of two literals, in the other order
pub both_turned : (e : Encoding) (a b l : Lit) → Says e l (BothAre b a) → Says e l (BothAre a b)
both_turned e a b l s = says_as e l s (λ f v h. (λ x. (x.1, x.0), λ x. (x.1, x.0)))

-- never, where the second is never true
pub never_second : (e : Encoding) → IsSound e → (a b : Lit) → b ≡ never → Says e never (BothAre a b)
never_second e t a b q = both_turned e a b never (never_first e t b a q)

-- the first, where the second is always true
pub always_second : (e : Encoding) → IsSound e → (a b : Lit) → IsKnown e a → b ≡ always → Says e a (BothAre a b)
always_second e t a b k q = both_turned e a b a (always_first e t b a k q)

-- ---- exactly one of two literals, where no variable is wanted

module _ (e : Encoding) (t : IsSound e) (a b : Lit) where
  yes_holds : (f : Frozen) (v : Valuation) → Stands e f v → Holds v always
  yes_holds f v h = ((always_says e t).exactly f v h).1 tt

  no_fails : (f : Frozen) (v : Valuation) → Stands e f v → Holds v never → ⊥
  no_fails f v h = ((never_says e t).exactly f v h).0

  pub either_second : IsKnown e b → a ≡ never → Says e b (EitherIs a b)
  either_second k q = record {
    known = k;
    exactly = λ f v h.
        let n : Holds v a → ⊥ = λ x. no_fails f v h (subst (λ l. Holds v l) q x) in (
          λ y i. n (i.1 y),
          λ w. elim (value_cases v b) [ yes y ↦ y | no m ↦ absurd (w (λ x. absurd (n x), λ y. absurd (m y))) ],
        );
  }

  pub either_not_second : (n : Lit) → n ≡ negation b → IsKnown e b → a ≡ always → Says e n (EitherIs a b)
  either_not_second n q k p = record {
    known = known_negated e b n q k;
    exactly = λ f v h.
        let x : Holds v a = subst (λ l. Holds v l) (sym p) (yes_holds f v h) in
        let g = negated_as v n b q in
        (λ z i. g.0 z (i.0 x), λ w. g.1 (λ y. w (λ z. y, λ z. x)));
  }

  pub either_same : a ≡ b → Says e never (EitherIs a b)
  either_same q = says_as e never (never_says e t)
      (λ f v h. (λ x. absurd x, λ w. w (λ x. subst (λ l. Holds v l) q x, λ y. subst (λ l. Holds v l) (sym q) y)))

  pub either_opposite : (n : Lit) → n ≡ negation b → a ≡ n → Says e always (EitherIs a b)
  either_opposite n q p = says_as e always (always_says e t) (λ f v h.
      let r : a ≡ negation b = p ∙ q in
      let g = negated_is v b in (
        λ z i. elim (value_cases v b) [
          | yes y ↦ g.0 (subst (λ l. Holds v l) r (i.1 y)) y
          | no m ↦ m (i.0 (subst (λ l. Holds v l) (sym r) (g.1 m)))
        ],
        λ w. tt,
      ))

-- exactly one of two literals, in the other order
either_turned : (e : Encoding) (a b l : Lit) → Says e l (EitherIs b a) → Says e l (EitherIs a b)
either_turned e a b l s = says_as e l s (λ f v h. (λ n i. n (i.1, i.0), λ n i. n (i.1, i.0)))

-- the first, where the second is never true
pub either_first : (e : Encoding) → IsSound e → (a b : Lit) → IsKnown e a → b ≡ never → Says e a (EitherIs a b)
either_first e t a b k q = either_turned e a b a (either_second e t b a k q)

-- the negation of the first, where the second is always true
pub either_not_first : (e : Encoding) → IsSound e → (a b n : Lit) → n ≡ negation a → IsKnown e a → b ≡ always
    → Says e n (EitherIs a b)
either_not_first e t a b n q k p = either_turned e a b n (either_not_second e t b a n q k p)

-- ---- nodes of formulas

module _ (e : Encoding) (o a b : Lit) where
  module _ (t : Says e o (BothAre a b)) where
    pub given_first : (n : Lit) → n ≡ negation o → IsGiven e (n ∷ a ∷ [])
    given_first n q = given_implies e n o a q (λ f v h k. ((t.exactly f v h).0 k).0)

    pub given_second : (n : Lit) → n ≡ negation o → IsGiven e (n ∷ b ∷ [])
    given_second n q = given_implies e n o b q (λ f v h k. ((t.exactly f v h).0 k).1)

    pub given_both : (n m : Lit) → n ≡ negation a → m ≡ negation b → IsGiven e (o ∷ n ∷ m ∷ [])
    given_both n m q u = record {
      met = λ f v h. where_false v o (n ∷ m ∷ []) (λ i. where_true v n a (m ∷ []) q (λ x. where_true v m b [] u
          (λ y. absurd (i ((t.exactly f v h).1 (x, y))))));
    }

  module _ (t : Says e o (EitherIs a b)) where
    pub given_some : (n : Lit) → n ≡ negation o → IsGiven e (n ∷ a ∷ b ∷ [])
    given_some n q = record {
      met = λ f v h. where_true v n o (a ∷ b ∷ []) q (λ k. where_false v a (b ∷ []) (λ i. where_false v b []
          (λ j. absurd ((t.exactly f v h).0 k (λ x. absurd (i x), λ y. absurd (j y))))));
    }

    pub given_not_both : (n m k : Lit) → n ≡ negation o → m ≡ negation a → k ≡ negation b → IsGiven e (n ∷ m ∷ k ∷ [])
    given_not_both n m k q u w = record {
      met = λ f v h. where_true v n o (m ∷ k ∷ []) q (λ i. where_true v m a (k ∷ []) u (λ x. where_true v k b [] w
          (λ y. absurd ((t.exactly f v h).0 i (λ z. y, λ z. x)))));
    }

    pub given_one : (m : Lit) → m ≡ negation a → IsGiven e (o ∷ m ∷ b ∷ [])
    given_one m q = record {
      met = λ f v h. where_false v o (m ∷ b ∷ []) (λ n. where_true v m a (b ∷ []) q (λ x. where_false v b []
          (λ j. absurd (n ((t.exactly f v h).1 (λ i. j (i.0 x)))))));
    }

    pub given_other : (m : Lit) → m ≡ negation b → IsGiven e (o ∷ a ∷ m ∷ [])
    given_other m q = record {
      met = λ f v h. where_false v o (a ∷ m ∷ []) (λ n. where_false v a (m ∷ []) (λ j. where_true v m b [] q
          (λ y. absurd (n ((t.exactly f v h).1 (λ i. j (i.1 y)))))));
    }
