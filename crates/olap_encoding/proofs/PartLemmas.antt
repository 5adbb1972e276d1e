-- What the parts of a formula require, and how many nodes they have.
use Rattle.std.proofs.Common.{◌≡◌, ℕ, ◌+◌, ◌<◌, refl, ap, subst, ◌∙◌, ◌⊎◌, inl, inr, arith}
use Rattle.olap_ast.specs.Formula.{Formula.Truth, Formula.Falsity, Formula.Path, Formula.Reach, Formula.Via, Formula.Equals, Formula.Compare, Formula.Not, Formula.And, Formula.Or, Formula.Implies, Formula.Iff, Formula.Xor, Formula.One}
use Rattle.olap_ast.specs.{Trees.{formula_of, terms_of}, Valid.{node_count, node_count_of_terms}}
use Rattle.olap_ast.specs.declared.formulas.{Formula.Formula, Terms.Terms}
use Rattle.olap_names.specs.Questions.{Question}
use Rattle.olap_encoding.{proofs.SplittingLemmas.spoken_as, specs.Encoding.{Encoding, IsSound, categories_of}}
use Rattle.olap_encoding.specs.{Formulas.{IsSpoken, AreSpoken}, Joining.joined, declared.formulas.Connective.Connective}
use Rattle.olap_encoding.specs.declared.formulas.Connective.TheVariants.{Conjunction, Disjunction, Implication, Equivalence, Exclusion}
use Rattle.olap_ast.specs.Formula as Meaning

-- a formula has a node
pub has_node : (x : Meaning.Formula) → 0 < node_count x
has_node Truth = omega arith
has_node Falsity = omega arith
has_node (Path cs) = omega arith
has_node (Reach d) = omega arith
has_node (Via d k) = omega arith
has_node (Equals d text) = omega arith
has_node (Compare d op n) = omega arith
has_node (Not x) = omega arith
has_node (And x y) = omega arith
has_node (Or x y) = omega arith
has_node (Implies x y) = omega arith
has_node (Iff x y) = omega arith
has_node (Xor x y) = omega arith
has_node (One xs) = omega arith

-- ---- two parts that are joined

-- a formula of one of these kinds is joined by its connective
pub joined_by : {a b c d e : Formula} (f : Formula) (x y : Meaning.Formula) → formula_of a ≡ joined Conjunction x y
    → formula_of b ≡ joined Disjunction x y → formula_of c ≡ joined Implication x y
    → formula_of d ≡ joined Equivalence x y → formula_of e ≡ joined Exclusion x y
    → (f ≡ a) ⊎ ((f ≡ b) ⊎ ((f ≡ c) ⊎ ((f ≡ d) ⊎ (f ≡ e)))) → (k : Connective) × (formula_of f ≡ joined k x y)
joined_by f x y p q r s t (inl h) = (Conjunction, ap (λ (z : Formula). formula_of z) h ∙ p)
joined_by f x y p q r s t (inr (inl h)) = (Disjunction, ap (λ (z : Formula). formula_of z) h ∙ q)
joined_by f x y p q r s t (inr (inr (inl h))) = (Implication, ap (λ (z : Formula). formula_of z) h ∙ r)
joined_by f x y p q r s t (inr (inr (inr (inl h)))) = (Equivalence, ap (λ (z : Formula). formula_of z) h ∙ s)
joined_by f x y p q r s t (inr (inr (inr (inr h)))) = (Exclusion, ap (λ (z : Formula). formula_of z) h ∙ t)

-- it has one node more than the two parts
pub joined_nodes : (k : Connective) (x y : Meaning.Formula)
    → node_count (joined k x y) ≡ 1 + node_count x + node_count y
joined_nodes Conjunction x y = refl
joined_nodes Disjunction x y = refl
joined_nodes Implication x y = refl
joined_nodes Equivalence x y = refl
joined_nodes Exclusion x y = refl

-- it speaks of what the two parts speak of
pub joined_spoken : (p : Question) (k : Connective) (x y : Meaning.Formula) → IsSpoken p (joined k x y)
    → IsSpoken p x × IsSpoken p y
joined_spoken p Conjunction x y s = s
joined_spoken p Disjunction x y s = s
joined_spoken p Implication x y s = s
joined_spoken p Equivalence x y s = s
joined_spoken p Exclusion x y s = s

-- ---- the same parts by two names

-- equal parts have equally many nodes
pub counted_terms : {x y : Terms} → x ≡ y → node_count_of_terms (terms_of x) ≡ node_count_of_terms (terms_of y)
counted_terms q = ap (λ (z : Terms). node_count_of_terms (terms_of z)) q

-- and if one list of equal parts speaks of the question, so does the other
pub terms_spoken_as : (p : Question) {x y : Terms} → x ≡ y → AreSpoken p (terms_of x) → AreSpoken p (terms_of y)
terms_spoken_as p q s = subst (λ (z : Terms). AreSpoken p (terms_of z)) q s

module _ (e : Encoding) (c : ℕ) (t : IsSound e) (h : c < categories_of e.question) where
  -- what a part requires
  pub part_spoken : {g x : Formula} → g ≡ x → IsSpoken e.question (formula_of g)
      → IsSound e × (c < categories_of e.question × IsSpoken e.question (formula_of x))
  part_spoken q s = (t, (h, spoken_as e.question q s))

  -- what two parts require
  pub parts_spoken : {g k x y : Formula} → g ≡ x → k ≡ y
      → IsSpoken e.question (formula_of g) × IsSpoken e.question (formula_of k)
      → IsSound e × (c < categories_of e.question × (IsSpoken e.question (formula_of x)
      × IsSpoken e.question (formula_of y)))
  parts_spoken q r s = (t, (h, (spoken_as e.question q s.0, spoken_as e.question r s.1)))
