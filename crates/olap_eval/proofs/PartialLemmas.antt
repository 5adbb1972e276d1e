-- Values of formulas: along a path, in a list, and as the truth in each shape that has what is known.
use Rattle.std.proofs.Common.{◌≡◌, ◌+◌, ◌∙◌, ◌∷◌, ◌++◌, ◌⊎◌, ◌↔◌, ◌&&◌, ◌||◌, ℕ, zero, suc, [], Bool, List, not, ap, append_assoc, inl, inr, refl, sym, subst}
use Rattle.std.specs.Prelude.{IsTrue}
use Rattle.olap_base.specs.Instance.{Instance}
use Rattle.olap_ast.specs.Formula.{Formula, Terms, Formula.Truth, Formula.Falsity, Formula.Path, Formula.Reach, Formula.Via, Formula.Equals, Formula.Compare, Formula.Not, Formula.And, Formula.Or, Formula.Implies, Formula.Iff, Formula.Xor, Formula.One, Terms.End, Terms.More, ExactlyOneHolds, HasPath, Holds, NoneHolds}
use Rattle.olap_ast.specs.ThreeValues.{IsCount, iff, implies, unknown_count, value_of, value_of_both, value_of_counts, xor, yes_count}
use Rattle.olap_ast.specs.declared.three_values.Truth3.{Truth3, TheVariants.{No, Yes, Unknown}}
use Rattle.olap_eval.proofs.ShapeLemmas.{named_is, numbered_is, numbers, path_from, path_none, path_to, reach_is, via_is}
use Rattle.olap_eval.specs.Partial.{Agrees, Completes, Knowledge, ValuesAreTruths, value_along, value_at, values_of}
use Rattle.olap_eval.specs.Shapes.{IsShape, HasEdgeThere}

-- ---- along a path

-- whether both are true, as far as it is known
abbrev and : Truth3 → Truth3 → Truth3
and x y = value_of_both ◌&&◌ x y

-- with what is true in front nothing changes
and_yes : (x : Truth3) → and Yes x ≡ x
and_yes No = refl
and_yes Yes = refl
and_yes Unknown = refl

-- the value so far, and what is left of the path
pub along_start : (k : Knowledge) (c : ℕ) (cs : List ℕ) → and Yes (value_along k c cs) ≡ value_along k c cs
along_start k c cs = and_yes (value_along k c cs)

-- ---- what is known, and what is so

-- a value agrees with whatever is equivalent
agrees_iff : {A B : Type 0} (v : Truth3) → A ↔ B → Agrees v A → Agrees v B
agrees_iff No i a = λ b. a (i.1 b)
agrees_iff Yes i a = i.0 a
agrees_iff Unknown i a = tt

-- a value turned round agrees with the negation
agrees_not : (P : Type 0) (x : Truth3) → Agrees x P → Agrees (value_of not x) (P → ⊥)
agrees_not P No a = a
agrees_not P Yes a = λ n. n a
agrees_not P Unknown a = tt

module _ (P Q : Type 0) where
  agrees_and : (x y : Truth3) → Agrees x P → Agrees y Q → Agrees (value_of_both ◌&&◌ x y) (P × Q)
  agrees_and No No a b = λ t. a t.0
  agrees_and No Yes a b = λ t. a t.0
  agrees_and No Unknown a b = λ t. a t.0
  agrees_and Yes No a b = λ t. b t.1
  agrees_and Yes Yes a b = (a, b)
  agrees_and Yes Unknown a b = tt
  agrees_and Unknown No a b = λ t. b t.1
  agrees_and Unknown Yes a b = tt
  agrees_and Unknown Unknown a b = tt

  agrees_or : (x y : Truth3) → Agrees x P → Agrees y Q → Agrees (value_of_both ◌||◌ x y) (P ⊎ Q)
  agrees_or No No a b = λ t. elim t [ inl p ↦ a p | inr q ↦ b q ]
  agrees_or No Yes a b = inr b
  agrees_or No Unknown a b = tt
  agrees_or Yes No a b = inl a
  agrees_or Yes Yes a b = inl a
  agrees_or Yes Unknown a b = inl a
  agrees_or Unknown No a b = tt
  agrees_or Unknown Yes a b = inr b
  agrees_or Unknown Unknown a b = tt

  agrees_implies : (x y : Truth3) → Agrees x P → Agrees y Q → Agrees (value_of_both implies x y) (P → Q)
  agrees_implies No No a b = λ p. absurd (a p)
  agrees_implies No Yes a b = λ p. b
  agrees_implies No Unknown a b = λ p. absurd (a p)
  agrees_implies Yes No a b = λ f. b (f a)
  agrees_implies Yes Yes a b = λ p. b
  agrees_implies Yes Unknown a b = tt
  agrees_implies Unknown No a b = tt
  agrees_implies Unknown Yes a b = λ p. b
  agrees_implies Unknown Unknown a b = tt

  agrees_with_iff : (x y : Truth3) → Agrees x P → Agrees y Q → Agrees (value_of_both iff x y) (P ↔ Q)
  agrees_with_iff No No a b = (λ p. absurd (a p), λ q. absurd (b q))
  agrees_with_iff No Yes a b = λ t. a (t.1 b)
  agrees_with_iff No Unknown a b = tt
  agrees_with_iff Yes No a b = λ t. b (t.0 a)
  agrees_with_iff Yes Yes a b = (λ p. b, λ q. a)
  agrees_with_iff Yes Unknown a b = tt
  agrees_with_iff Unknown No a b = tt
  agrees_with_iff Unknown Yes a b = tt
  agrees_with_iff Unknown Unknown a b = tt

  agrees_xor : (x y : Truth3) → Agrees x P → Agrees y Q
      → Agrees (value_of_both xor x y) ((P × (Q → ⊥)) ⊎ ((P → ⊥) × Q))
  agrees_xor No No a b = λ t. elim t [ inl s ↦ a s.0 | inr s ↦ b s.1 ]
  agrees_xor No Yes a b = inr (a, b)
  agrees_xor No Unknown a b = tt
  agrees_xor Yes No a b = inl (a, b)
  agrees_xor Yes Yes a b = λ t. elim t [ inl s ↦ s.1 b | inr s ↦ s.0 a ]
  agrees_xor Yes Unknown a b = tt
  agrees_xor Unknown No a b = tt
  agrees_xor Unknown Yes a b = tt
  agrees_xor Unknown Unknown a b = tt

-- ---- lists

-- whether none of these is true, by how many are known to be and how many are unknown
abbrev value_of_none : ℕ → ℕ → Truth3
value_of_none zero zero = Yes
value_of_none zero (suc u) = Unknown
value_of_none (suc y) u = No

-- what is known of a list by its two numbers: that exactly one part is so, and that none is
record AreCounted (One None : Type 0) (y u : ℕ) : Type 0 where
  exactly : Agrees (value_of_counts y u) One
  nothing : Agrees (value_of_none y u) None

module _ {P One None : Type 0} (y u : ℕ) (c : AreCounted One None y u) where
  counted_no : (P → ⊥) → AreCounted ((P × None) ⊎ ((P → ⊥) × One)) ((P → ⊥) × None) y u
  counted_no n = record {
    exactly =
        agrees_iff (value_of_counts y u)
        (λ o. inr (n, o), λ t. elim t [ inl s ↦ absurd (n s.0) | inr s ↦ s.1 ]) c.exactly;
    nothing = agrees_iff (value_of_none y u) (λ m. (n, m), λ t. t.1) c.nothing;
  }

  counted_yes : P → AreCounted ((P × None) ⊎ ((P → ⊥) × One)) ((P → ⊥) × None) (suc y) u
  counted_yes p = record {
    exactly =
        subst (λ v. Agrees v ((P × None) ⊎ ((P → ⊥) × One))) (first y u)
        (agrees_iff (value_of_none y u)
        (λ m. inl (p, m), λ t. elim t [ inl s ↦ s.1 | inr s ↦ absurd (s.0 p) ]) c.nothing);
    nothing = λ t. t.0 p;
  }
    where
      first : (y u : ℕ) → value_of_none y u ≡ value_of_counts (suc y) u
      first zero zero = refl
      first zero (suc u) = refl
      first (suc y) u = refl

-- one part more of which nothing is known
counted_unknown : {P One None : Type 0} (y u : ℕ) → AreCounted One None y u
    → AreCounted ((P × None) ⊎ ((P → ⊥) × One)) ((P → ⊥) × None) y (suc u)
counted_unknown zero u c = record { exactly = tt; nothing = tt }
counted_unknown (suc zero) u c = record { exactly = tt; nothing = λ t. c.nothing t.1 }
counted_unknown (suc (suc y)) u c = record {
  exactly = λ t. elim t [ inl s ↦ c.nothing s.1 | inr s ↦ c.exactly s.1 ];
  nothing = λ t. c.nothing t.1;
}

-- one part more, whatever is known of it
counted_more : {P One None : Type 0} (x : Truth3) (xs : List Truth3) → Agrees x P
    → AreCounted One None (yes_count xs) (unknown_count xs)
    → AreCounted ((P × None) ⊎ ((P → ⊥) × One)) ((P → ⊥) × None) (yes_count (x ∷ xs)) (unknown_count (x ∷ xs))
counted_more No xs a c = counted_no (yes_count xs) (unknown_count xs) c a
counted_more Yes xs a c = counted_yes (yes_count xs) (unknown_count xs) c a
counted_more Unknown xs a c = counted_unknown (yes_count xs) (unknown_count xs) c

-- the value that was counted, and then those of the rest
pub count_on : (xs ys zs : List Truth3) (v : Truth3) (y u : ℕ) → zs ≡ v ∷ ys → IsCount ((xs ++ v ∷ []) ++ ys) y u
    → IsCount (xs ++ zs) y u
count_on xs ys zs v y u e c = subst (λ l. IsCount l y u) (append_assoc xs (v ∷ []) ys ∙ ap (λ l. xs ++ l) (sym e)) c

-- ---- formulas

module _ (k : Knowledge) (i : Instance) (present : ℕ → Bool) (place : ℕ → ℕ) (s : IsShape i present place)
    (c : Completes k i present place) where
  -- edges of the shape lead from x through these categories
  abbrev IsThere : ℕ → List ℕ → Type 0
  IsThere x [] = Unit {0}
  IsThere x (d ∷ ds) = HasEdgeThere i present place x d × IsThere d ds

  there_is : (x : ℕ) (ds : List ℕ) → IsTrue (present x) → IsThere x ds ↔ HasPath i (place x) ds
  there_is x [] p = (λ t. path_none i (place x), λ h. tt)
  there_is x (d ∷ ds) p = (
    λ t. path_from i present place s x p d ds t.0 ((there_is d ds t.0.1).0 t.1),
    λ h. let t = path_to i present place s x p d ds h in (t.0, (there_is d ds t.0.1).1 t.1),
  )

  along_agrees : (x : ℕ) (ds : List ℕ) → Agrees (value_along k x ds) (IsThere x ds)
  along_agrees x [] = tt
  along_agrees x (d ∷ ds) = agrees_and _ _ (k.edge x d) (value_along k d ds) (c.edges x d) (along_agrees d ds)

  module _ (r : ℕ) (p : IsTrue (present r)) where
    mutual
      value_agrees : (f : Formula) → Agrees (value_at k r f) (Holds i (place r) f)
      value_agrees Truth = tt
      value_agrees Falsity = λ h. h
      value_agrees (Path cs) = agrees_iff (value_along k r cs) (there_is r cs p) (along_agrees r cs)
      value_agrees (Reach d) = agrees_iff (k.reaches r d) (reach_is i present place s r p d) (c.reaching r d)
      value_agrees (Via d e) = agrees_iff (value_of_both ◌&&◌ (k.reaches r d) (k.reaches d e))
          (via_is i present place s r p d e)
          (agrees_and _ _ (k.reaches r d) (k.reaches d e) (c.reaching r d) (c.reaching d e))
      value_agrees (Equals d text) = agrees_iff (value_of_both ◌&&◌ (k.reaches r d) (k.name d text))
          (named_is i present place s r p d text)
          (agrees_and _ _ (k.reaches r d) (k.name d text) (c.reaching r d) (c.names d text))
      value_agrees (Compare d op n) = agrees_iff (value_of_both ◌&&◌ (k.reaches r d) (k.number d op n))
          (numbered_is i present place s r p d op n)
          (agrees_and _ _ (k.reaches r d) (k.number d op n) (c.reaching r d) (c.numbers d op n))
      value_agrees (Not f) = agrees_not _ (value_at k r f) (value_agrees f)
      value_agrees (And f g) = agrees_and _ _ (value_at k r f) (value_at k r g) (value_agrees f) (value_agrees g)
      value_agrees (Or f g) = agrees_or _ _ (value_at k r f) (value_at k r g) (value_agrees f) (value_agrees g)
      value_agrees (Implies f g) = agrees_implies _ _ (value_at k r f) (value_at k r g)
          (value_agrees f) (value_agrees g)
      value_agrees (Iff f g) = agrees_with_iff _ _ (value_at k r f) (value_at k r g) (value_agrees f) (value_agrees g)
      value_agrees (Xor f g) = agrees_xor _ _ (value_at k r f) (value_at k r g) (value_agrees f) (value_agrees g)
      value_agrees (One ts) = (values_agree ts).exactly

      values_agree : (ts : Terms)
          → AreCounted (ExactlyOneHolds i (place r) ts) (NoneHolds i (place r) ts) (yes_count (values_of k r ts))
          (unknown_count (values_of k r ts))
      values_agree End = record { exactly = λ h. h; nothing = tt }
      values_agree (More f ts) = counted_more (value_at k r f) (values_of k r ts) (value_agrees f) (values_agree ts)

-- the theorem, from what each connective keeps
pub values_are_truths : ValuesAreTruths
values_are_truths k i present place s c r p f = value_agrees k i present place s c r p f
