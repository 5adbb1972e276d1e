-- The valuation of a frozen dimension gives each variable the value of its meaning.
use Rattle.std.proofs.Common.{◌≡◌, ℕ, zero, suc, ◌<◌, ◌≤◌, List, length, Bool, true, false, cond, refl, ap, sym, subst, ◌∙◌, ◌↔◌, ◌⊎◌, inl, inr, arith}
use Rattle.std.{proofs.lemmas.Bool.{and_from, leb-true, eqb-true, eq-eqb, le-leb}, specs.Prelude.{◌==◌, IsTrue, not}}
use Rattle.olap_base.proofs.ListLemmas.{first_true, second_true}
use Rattle.olap_base.specs.Reaching.{category_reaches, category_reaches_is}
use Rattle.olap_base.specs.Steps.{Steps-from_reaches, reaches_from_Steps}
use Rattle.olap_ast.specs.{Frozen.{Frozen, is_present}, Schema.Schema}
use Rattle.olap_encoding.{proofs.LiteralLemmas.value_is, specs.Literals.{Valuation, value}}
use Rattle.olap_encoding.specs.Meanings.{edges_of, index_of, Means, IsEither, meaning_at, Fits, IsBelow, AreOrdered, chosen_graph, truth_of, valuation}
use Rattle.olap_encoding.specs.declared.meanings.Meaning.{Meaning}
use Rattle.olap_encoding.specs.declared.meanings.Meaning.TheVariants.{Always, On, Named, UpTo, Present, Reaching, Both, Differ}

-- ---- whether a meaning holds

-- the test of exactly one of two
differ_is : (a b : Bool) → IsTrue (cond a (not b) b) ↔ IsEither (IsTrue a) (IsTrue b)
differ_is true true = (λ e i. cc, λ n. absurd (n (λ x. x, λ x. x)))
differ_is true false = (λ e i. let z : false ≡ true = i.0 refl in cc, λ n. refl)
differ_is false true = (λ e i. let z : false ≡ true = i.1 refl in cc, λ n. refl)
differ_is false false = (λ e i. cc, λ n. absurd (n (λ x. x, λ x. x)))

-- the test of a meaning says whether it holds
truth_is : (s : Schema) (r : ℕ) (f : Frozen) (v : Valuation) (m : Meaning) → IsTrue (truth_of s r f v m)
    ↔ Means s r f v m
truth_is s r f v Always = (λ e. tt, λ t. refl)
truth_is s r f v (On e) = (λ h. h, λ h. h)
truth_is s r f v (Named c k) = (eqb-true (index_of f c) k, eq-eqb (index_of f c) k)
truth_is s r f v (UpTo c k) = (leb-true (index_of f c) k, le-leb (index_of f c) k)
truth_is s r f v (Present c) = (λ h. h, λ h. h)
truth_is s r f v (Reaching c d) =
    let a = is_present r (edges_of s f) c in
    let b = category_reaches (chosen_graph (edges_of s f)) c d in
    let t = category_reaches_is (chosen_graph (edges_of s f)) c d in (
      λ h. (first_true a b h, Steps-from_reaches (t.0 (second_true a b h))),
      λ h. and_from a b h.0 (t.1 (reaches_from_Steps h.1)),
    )
truth_is s r f v (Both a b) =
    let p = value_is v a in
    let q = value_is v b in (
      λ h. (p.0 (first_true (value v a) (value v b) h), q.0 (second_true (value v a) (value v b) h)),
      λ h. and_from (value v a) (value v b) (p.1 h.0) (q.1 h.1),
    )
truth_is s r f v (Differ a b) =
    let p = value_is v a in
    let q = value_is v b in
    let d = differ_is (value v a) (value v b) in (
      λ h i. d.0 h (λ x. q.1 (i.0 (p.0 x)), λ y. p.1 (i.1 (q.0 y))),
      λ n. d.1 (λ i. n (λ x. q.0 (i.0 (p.1 x)), λ y. p.0 (i.1 (q.1 y)))),
    )

-- ---- valuations that agree below n

-- a meaning holds alike where the variables that it speaks of have the same values
means_alike : (s : Schema) (r : ℕ) (f : Frozen) (v w : Valuation) (n : ℕ) (m : Meaning) → IsBelow n m
    → ((y : ℕ) → y < n → v y ≡ w y) → Means s r f v m → Means s r f w m
means_alike s r f v w n Always b e h = h
means_alike s r f v w n (On x) b e h = h
means_alike s r f v w n (Named c k) b e h = h
means_alike s r f v w n (UpTo c k) b e h = h
means_alike s r f v w n (Present c) b e h = h
means_alike s r f v w n (Reaching c d) b e h = h
means_alike s r f v w n (Both x y) b e h = (
  sym (e x.variable b.0) ∙ h.0,
  sym (e y.variable b.1) ∙ h.1,
)
means_alike s r f v w n (Differ x y) b e h =
    let p = e x.variable b.0 in
    let q = e y.variable b.1 in
    λ i. h (λ a. q ∙ i.0 (sym p ∙ a), λ a. p ∙ i.1 (sym q ∙ a))

-- ---- one variable after the other

module _ (s : Schema) (r : ℕ) (f : Frozen) (ms : List Meaning) where
  new_value : (n : ℕ) → valuation s r f ms (suc n) n ≡ truth_of s r f (valuation s r f ms n) (meaning_at ms n)
  unfolding valuation
  new_value n = ap (λ b. cond b (truth_of s r f (valuation s r f ms n) (meaning_at ms n)) (valuation s r f ms n n))
      (eq-eqb n n refl)

  old_value : (n x : ℕ) → x < n → valuation s r f ms (suc n) x ≡ valuation s r f ms n x
  unfolding valuation
  old_value n x h = go (x == n) (λ e. let q = eqb-true x n e in omega arith)
    where
      go : (b : Bool) → (b ≡ true → ⊥)
          → cond b (truth_of s r f (valuation s r f ms n) (meaning_at ms n)) (valuation s r f ms n x)
          ≡ valuation s r f ms n x
      go true m = absurd (m refl)
      go false m = refl

  last_or_earlier : (n x : ℕ) → x < suc n → (x ≡ n) ⊎ (x < n)
  last_or_earlier n x h = grind arith

  module _ (o : AreOrdered ms) where
    -- with one more variable, a value that says what is meant says what is meant then
    kept : (n x : ℕ) → x < length ms → x ≤ n → (b : Bool)
        → IsTrue b ↔ Means s r f (valuation s r f ms n) (meaning_at ms x) → valuation s r f ms (suc n) x ≡ b
        → IsTrue (valuation s r f ms (suc n) x) ↔ Means s r f (valuation s r f ms (suc n)) (meaning_at ms x)
    kept n x l h b t e =
        let v = valuation s r f ms n in
        let w = valuation s r f ms (suc n) in (
          λ a. means_alike s r f v w x (meaning_at ms x) (o.below x l) (λ y k. sym (old_value n y (omega arith)))
              (t.0 (sym e ∙ a)),
          λ a. e ∙ t.1 (means_alike s r f w v x (meaning_at ms x) (o.below x l) (λ y k. old_value n y (omega arith)) a),
        )

    first_values : (n x : ℕ) → n ≤ length ms → x < n
        → IsTrue (valuation s r f ms n x) ↔ Means s r f (valuation s r f ms n) (meaning_at ms x)
    first_values zero x l h = absurd (omega arith)
    first_values (suc n) x l h = elim (last_or_earlier n x h) [
      | inl q ↦ kept n x (omega arith) (omega arith) (truth_of s r f (valuation s r f ms n) (meaning_at ms x))
          (truth_is s r f (valuation s r f ms n) (meaning_at ms x))
          (subst (λ y. valuation s r f ms (suc n) y ≡ truth_of s r f (valuation s r f ms n) (meaning_at ms y))
          (sym q) (new_value n))
      | inr k ↦ kept n x (omega arith) (omega arith) (valuation s r f ms n x) (first_values n x (omega arith) k)
          (old_value n x k)
    ]

    -- each frozen dimension has a valuation that fits it
    pub valuation_fits : Fits s r f ms (valuation s r f ms (length ms))
    valuation_fits = record { at = λ x h. first_values (length ms) x (omega arith) h }
