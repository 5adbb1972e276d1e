-- The ladder of a category's names: rung j says that the index is at most j.
use Rattle.std.proofs.Common.{◌≡◌, ℕ, zero, suc, ◌+◌, ◌<◌, ◌≤◌, [], ◌∷◌, length, refl, sym, subst, arith}
use Rattle.olap_ast.specs.Frozen.{Frozen}
use Rattle.olap_pool.specs.{Literals.{Holds, negation}, declared.literals.Lit.Lit}
use Rattle.olap_names.specs.{Names.{candidates_of, others_of}, Questions.Question}
use Rattle.olap_encoding.proofs.{ClauseLemmas.named_present, GivenLemmas.given_implies}
use Rattle.olap_encoding.proofs.LiteralLemmas.{met_first, where_true, where_false, negated_as}
use Rattle.olap_encoding.specs.Encoding.{Encoding, Stands, IsSound, IsNext, IsGiven, Says, PresentIs, NameIs, UpToIs, categories_of}
use Rattle.olap_encoding.specs.{Literals.Valuation, Meanings.index_of}

-- the rung that was made last
pub record IsRung (e0 e : Encoding) (c : ℕ) (l : Lit) (j : ℕ) : Type 0 where
  pub next : IsNext e0 e
  pub says : Says e l (UpToIs c j)

-- at most j + 1 and not at most j is j + 1
at_next : (i j : ℕ) → i ≤ j + 1 → (i ≤ j → ⊥) → i ≡ j + 1
at_next i j h n = grind arith

-- j + 1 isn't at most j
not_both : (i j : ℕ) → i ≡ j + 1 → i ≤ j → ⊥
not_both i j q h = omega arith

module _ (e : Encoding) (c j : ℕ) (x u l : Lit) (a : Says e x (UpToIs c j)) (b : Says e u (UpToIs c (j + 1)))
    (n : Says e l (NameIs c (j + 1))) where
  pub given_up : (m : Lit) → m ≡ negation x → IsGiven e (m ∷ u ∷ [])
  given_up m q = given_implies e m x u q
      (λ f v h k. (b.exactly f v h).1 (let i = (a.exactly f v h).0 k in omega arith))

  pub given_reaches : (m : Lit) → m ≡ negation l → IsGiven e (m ∷ u ∷ [])
  given_reaches m q = given_implies e m l u q
      (λ f v h k. (b.exactly f v h).1 (let i = (n.exactly f v h).0 k in omega arith))

  pub given_above : (m k : Lit) → m ≡ negation l → k ≡ negation x → IsGiven e (m ∷ k ∷ [])
  given_above m k q r = given_implies e m l k q (λ f v h y. (negated_as v k x r).1
      (λ z. not_both (index_of f c) j ((n.exactly f v h).0 y) ((a.exactly f v h).0 z)))

  pub given_between : (m : Lit) → m ≡ negation u → IsGiven e (l ∷ x ∷ m ∷ [])
  given_between m q = record {
    met = λ f v h. where_false v l (x ∷ m ∷ []) (λ y. where_false v x (m ∷ []) (λ z. where_true v m u [] q
        (λ k. absurd (y ((n.exactly f v h).1
        (at_next (index_of f c) j ((b.exactly f v h).0 k) (λ w. z ((a.exactly f v h).1 w))))))));
  }

-- ---- the ends

module _ (e : Encoding) (t : IsSound e) where
  unnamed : (f : Frozen) (v : Valuation) → Stands e f v → (c : ℕ) (p : Lit) → c < categories_of e.question
      → Says e p (PresentIs c) → (Holds v p → ⊥) → (i : ℕ) → index_of f c ≡ i → index_of f c ≤ 0
  unnamed f v h c p u a n zero q = omega arith
  unnamed f v h c p u a n (suc i) q = absurd (n ((a.exactly f v h).1
      (named_present e.question.schema e.question.formula e.question.root (candidates_of e.question.candidates)
      t.question.hierarchy t.question.root f h.frozen c i u q)))

  -- an absent category has no name from a constant
  pub given_lowest : (p l : Lit) (c : ℕ) → c < categories_of e.question → Says e p (PresentIs c) → Says e l (UpToIs c 0)
      → IsGiven e (p ∷ l ∷ [])
  given_lowest p l c u a b = record {
    met = λ f v h. where_false v p (l ∷ [])
        (λ n. met_first v l [] ((b.exactly f v h).1 (unnamed f v h c p u a n (index_of f c) refl)));
  }

  pub index_in_range : (f : Frozen) (v : Valuation) → Stands e f v → (c : ℕ) → c < categories_of e.question
      → index_of f c ≤ length (others_of e.question.candidates c)
  index_in_range f v h zero u = omega arith
  index_in_range f v h (suc c) u = h.frozen.in_range c (let z = h.frozen.name_count in omega arith)

  -- the index is at most the count of the constants
  pub given_highest : (l : Lit) (c n : ℕ) → c < categories_of e.question
      → length (others_of e.question.candidates c) ≤ n
      → Says e l (UpToIs c n) → IsGiven e (l ∷ [])
  given_highest l c n u m a = record {
    met = λ f v h. met_first v l [] ((a.exactly f v h).1 (let i = index_in_range f v h c u in omega arith));
  }

-- a category has as many names after a step
pub count_still : {a b : Encoding} → IsNext a b → (c m n : ℕ) → m ≡ length (others_of a.question.candidates c) → m ≤ n
    → length (others_of b.question.candidates c) ≤ n
count_still t c m n q h = subst (λ (p : Question). length (others_of p.candidates c) ≤ n) (sym t.later.question)
    (subst (λ k. k ≤ n) q h)
