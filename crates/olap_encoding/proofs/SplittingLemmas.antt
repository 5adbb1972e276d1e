-- A formula that must be true, and what that says of its parts.
use Rattle.std.proofs.Common.{◌≡◌, ℕ, ◌<◌, List, [], ◌∷◌, ◌++◌, Bool, true, false, refl, ap, sym, subst, ◌∙◌, ◌⊎◌, inl, inr}
use Rattle.std.{proofs.lemmas.List.Elements.{Contains-append_left, Contains-push}, specs.Prelude.{Contains, not}}
use Rattle.olap_base.specs.Instance.{Instance}
use Rattle.olap_ast.proofs.Decided.{decide_holds}
use Rattle.olap_ast.specs.Formula.{Formula, Formula.Not, Formula.And, Formula.Or, Formula.Implies, Holds as HoldsAt}
use Rattle.olap_ast.specs.{Frozen.name_in, Schema.Constraint, Trees.formula_of, Valid.node_count}
use Rattle.olap_pool.specs.{Literals.{Holds, negation}, declared.literals.Lit.Lit}
use Rattle.olap_names.specs.{Names.candidates_of, Questions.Question}
use Rattle.olap_encoding.proofs.{ChosenEdges.{present_member, place_is}, GivenLemmas.choice, Growing.stands_before}
use Rattle.olap_encoding.{proofs.LiteralLemmas.{negated_is, value_cases}, specs.Choices.IsPresent}
use Rattle.olap_encoding.specs.Encoding.{Encoding, categories_of, Says, IsSound, IsLater, IsGiven, PresentIs}
use Rattle.olap_encoding.specs.Formulas.{AreConjuncts, instance_in, member_in, TellsAt, IsTrueAt, IsWidened, IsSpoken, signed}
use Rattle.olap_encoding.specs.Meanings.{edges_of}
use Rattle.olap_ast.specs.declared.formulas.Formula as declared

-- ---- at one member

module _ (i : Instance) (m : ℕ) where
  -- what isn't false is true
  not_false : (x : Formula) → ((HoldsAt i m x → ⊥) → ⊥) → HoldsAt i m x
  not_false x n = elim (decide_holds i m x) [ yes h ↦ h | no k ↦ absurd (n k) ]

  turned : (b : Bool) (x : Formula) → HoldsAt i m (signed b (Not x)) → HoldsAt i m (signed (not b) x)
  turned true x h = h
  turned false x h = not_false x h

-- ---- conjuncts

-- a conjunction is both of its parts
pub conjuncts_of_and : (x y : Formula) → AreConjuncts true (And x y) true x true y
conjuncts_of_and x y = record {
  both = λ i m h. h;
  some = λ i m h. elim (decide_holds i m x) [ yes a ↦ inr (λ b. h (a, b)) | no n ↦ inl n ];
  smaller = refl;
  spoken = λ q s. s;
}

-- a disjunction that is false is both parts, negated
pub conjuncts_of_or : (x y : Formula) → AreConjuncts false (Or x y) false x false y
conjuncts_of_or x y = record {
  both = λ i m h. (λ a. h (inl a), λ b. h (inr b));
  some = λ i m h. h;
  smaller = refl;
  spoken = λ q s. s;
}

-- an implication that is false is its first part, and its second part negated
pub conjuncts_of_implies : (x y : Formula) → AreConjuncts false (Implies x y) true x false y
conjuncts_of_implies x y = record {
  both = λ i m h. (not_false i m x (λ n. h (λ a. absurd (n a))), λ b. h (λ a. b));
  some = λ i m h. elim (decide_holds i m x) [ yes a ↦ inr (h a) | no n ↦ inl n ];
  smaller = refl;
  spoken = λ q s. s;
}

-- the same under other names
pub conjuncts_as : (a b c d : Bool) {x u y v z w : declared.Formula} → a ≡ b → x ≡ u → y ≡ v → z ≡ w
    → AreConjuncts b (formula_of u) c (formula_of v) d (formula_of w)
    → AreConjuncts a (formula_of x) c (formula_of y) d (formula_of z)
conjuncts_as a b c d {x} {u} {y} {v} {z} {w} q r s t k =
    subst (λ i. AreConjuncts i (formula_of x) c (formula_of y) d (formula_of z)) (sym q)
    (subst (λ (i : declared.Formula). AreConjuncts b (formula_of i) c (formula_of y) d (formula_of z)) (sym r)
    (subst (λ (i : declared.Formula). AreConjuncts b (formula_of u) c (formula_of i) d (formula_of z)) (sym s)
    (subst (λ (i : declared.Formula). AreConjuncts b (formula_of u) c (formula_of v) d (formula_of i)) (sym t) k)))

-- ---- in a later encoding

module _ {a b : Encoding} (n : IsLater a b) where
  pub true_still : (c : ℕ) (x : Formula) → IsTrueAt a c x → IsTrueAt b c x
  true_still c x t = λ f v h p. subst (λ k. HoldsAt (instance_in k f) (member_in k f c) x) (sym n.question)
      (t f v (stands_before n h) (subst (λ k. IsPresent k.root (edges_of k.schema f) c) n.question p))

  pub widened_still : {c : ℕ} {x : Formula} {before after : List Lit} → IsWidened a c x before after
      → IsWidened b c x before after
  widened_still {c} {x} w = record {
    kept = w.kept;
    met = λ f v h p q. w.met f v (stands_before n h)
        (subst (λ k. IsPresent k.root (edges_of k.schema f) c) n.question p)
        (subst (λ k. HoldsAt (instance_in k f) (member_in k f c) x) n.question q);
  }

-- ---- the same formula by two names

-- the same of a formula and a sign under other names
pub widened_as : {e : Encoding} {c : ℕ} {ks ls : List Lit} (a b : Bool) {x y : declared.Formula} → a ≡ b → x ≡ y
    → IsWidened e c (signed a (formula_of x)) ks ls → IsWidened e c (signed b (formula_of y)) ks ls
widened_as {e} {c} {ks} {ls} a b {x} {y} q p w = subst (λ z. IsWidened e c (signed z (formula_of y)) ks ls) q
    (subst (λ (z : declared.Formula). IsWidened e c (signed a (formula_of z)) ks ls) p w)

-- the same
pub true_as : (e : Encoding) (c : ℕ) (a b : Bool) {x y : declared.Formula} → a ≡ b → x ≡ y
    → IsTrueAt e c (signed a (formula_of x)) → IsTrueAt e c (signed b (formula_of y))
true_as e c a b {x} {y} q p t = subst (λ z. IsTrueAt e c (signed z (formula_of y))) q
    (subst (λ (z : declared.Formula). IsTrueAt e c (signed a (formula_of z))) p t)

-- the same
pub spoken_as : (p : Question) {x y : declared.Formula} → x ≡ y → IsSpoken p (formula_of x) → IsSpoken p (formula_of y)
spoken_as p q s = subst (λ (z : declared.Formula). IsSpoken p (formula_of z)) q s

-- equal formulas have as many nodes
pub counted : {x y : declared.Formula} → x ≡ y → node_count (formula_of x) ≡ node_count (formula_of y)
counted q = ap (λ (z : declared.Formula). node_count (formula_of z)) q

-- what the clauses of a part require
pub required : (e : Encoding) (c : ℕ) (b : Bool) {x y : declared.Formula} → x ≡ y → IsSound e
    → c < categories_of e.question → IsSpoken e.question (formula_of x) → IsTrueAt e c (signed b (formula_of x))
    → IsSound e × (c < categories_of e.question × (IsSpoken e.question (formula_of y)
    × IsTrueAt e c (signed b (formula_of y))))
required e c b q t h s k = (t, (h, (spoken_as e.question q s, true_as e c b b refl q k)))

-- ---- alternatives

module _ (e : Encoding) (c : ℕ) where
  pub widened_by : (l : Lit) (x : Formula) (ls : List Lit) → TellsAt e c l x
      → IsWidened e c x ls (ls ++ l ∷ [])
  widened_by l x ls t = record {
    kept = λ m h. Contains-append_left ls (l ∷ []) m h;
    met = λ f v h p q. (l, Contains-push ls l, (t.exactly f v h p).1 q);
  }

  pub widened_turned : (b : Bool) (x : Formula) {before after : List Lit}
      → IsWidened e c (signed (not b) x) before after
      → IsWidened e c (signed b (Not x)) before after
  widened_turned b x w = record {
    kept = w.kept;
    met = λ f v h p q. w.met f v h p (turned (instance_in e.question f) (member_in e.question f c) b x q);
  }

  widened_twice : (x y z : Formula) {before mid after : List Lit} → IsWidened e c x before mid
      → IsWidened e c y mid after
      → ((i : Instance) (m : ℕ) → HoldsAt i m z → HoldsAt i m x ⊎ HoldsAt i m y) → IsWidened e c z before after
  widened_twice x y z u w some = record {
    kept = λ l h. w.kept l (u.kept l h);
    met = λ f v h p q. elim (some (instance_in e.question f) (member_in e.question f c) q) [
      | inl a ↦ let s = u.met f v h p a in (s.0, w.kept s.0 s.1, s.2)
      | inr a ↦ w.met f v h p a
    ];
  }

  -- what conjuncts leave of a negation
  pub widened_some : (b : Bool) {x y z : Formula} (i j : Bool) {before mid after : List Lit}
      → AreConjuncts (not b) x i y j z → IsWidened e c (signed (not i) y) before mid
      → IsWidened e c (signed (not j) z) mid after → IsWidened e c (signed b x) before after
  widened_some true {x} {y} {z} i j p u w =
      widened_twice (signed (not i) y) (signed (not j) z) (signed true x) u w p.some
  widened_some false {x} {y} {z} i j p u w =
      widened_twice (signed (not i) y) (signed (not j) z) (signed false x) u w p.some

  -- ---- parts

  pub true_turned : (b : Bool) (x : Formula) → IsTrueAt e c (signed b (Not x)) → IsTrueAt e c (signed (not b) x)
  true_turned b x t = λ f v h p. turned (instance_in e.question f) (member_in e.question f c) b x (t f v h p)

  module _ (b : Bool) {x y z : Formula} (i j : Bool) (p : AreConjuncts b x i y j z)
      (t : IsTrueAt e c (signed b x)) where
    pub true_first : IsTrueAt e c (signed i y)
    true_first = λ f v h k. (p.both (instance_in e.question f) (member_in e.question f c) (t f v h k)).0

    pub true_second : IsTrueAt e c (signed j z)
    true_second = λ f v h k. (p.both (instance_in e.question f) (member_in e.question f c) (t f v h k)).1

  -- the clause that is widened from the guard
  pub given_widened : (n p : Lit) (x : Formula) {before after : List Lit} → n ≡ negation p → Says e p (PresentIs c)
      → Contains before n → IsTrueAt e c x → IsWidened e c x before after → IsGiven e after
  given_widened n p x {before} {after} q a h t w = record {
    met = λ f v s. elim (value_cases v p) [
      | yes y ↦ let k = (a.exactly f v s).0 y in w.met f v s k (t f v s k)
      | no m ↦ (n, w.kept n h, subst (λ l. Holds v l) (sym q) ((negated_is v p).1 m))
    ];
  }

-- ---- a constraint, and the question

-- a constraint is true at its root in each frozen dimension
pub constraint_true : (e : Encoding) → IsSound e → (c : ℕ) (k : Constraint) → k.root ≡ c
    → Contains e.question.schema.constraints k → IsTrueAt e c k.formula
constraint_true e t c k r m = λ f v h u.
    let w = present_member e.question.schema.graph e.question.root (edges_of e.question.schema f) (choice e t f v h)
    (name_in (candidates_of e.question.candidates) f) c u in
    h.frozen.stands_for.legal.meets k m (member_in e.question f c) (w.0, w.1 ∙ sym r)

-- and the question at the root of all
pub question_true : (e : Encoding) → IsSound e → IsTrueAt e e.question.root e.question.formula
question_true e t = λ f v h u.
    let s = h.frozen.stands_for in
    let es = edges_of e.question.schema f in
    let i = instance_in e.question f in
    let q : s.root ≡ member_in e.question f e.question.root =
    sym (place_is e.question.schema.graph e.question.root es (choice e t f v h)
    (name_in (candidates_of e.question.candidates) f) s.root s.root_is.0)
    ∙ ap (member_in e.question f) s.root_is.1 in
    subst (λ y. HoldsAt i y e.question.formula) q s.true_at_root
