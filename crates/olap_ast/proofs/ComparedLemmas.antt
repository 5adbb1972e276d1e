-- The atoms on names and numbers are the atoms on names and the atoms on numbers.
use Rattle.std.proofs.Common.{◌≡◌, ◌∙◌, ℕ, ℤ, ◌+◌, suc, List, [], ◌∷◌, ◌++◌, Bool, true, false, cond, Option, Some, None, length, fold, refl, ap, sym, subst, arith}
use Rattle.std.proofs.{Math.Bool.and-false, lemmas.List.Elements.filter_map-append}
use Rattle.std.specs.Prelude.{◌==◌, Contains, filter, filter_map, flat_map}
use Rattle.olap_ast.proofs.KindLemmas.{Kind, back, from_on, kept, kind_folded, of_kind, passes, to_on}
use Rattle.olap_ast.specs.Atoms.{Comparison, Equality, all_comparisons, all_equalities, comparisons, comparisons_of_terms, equalities, equalities_of_terms, numbers_on, texts_on}
use Rattle.olap_ast.specs.Constants.{AreInByteOrder, IsConstant, all_compared, as_number, numbers}
use Rattle.olap_ast.specs.Formula.{Compared, Constant, Constant.ANumber, Constant.AText, Formula, Formula.And, Formula.Iff, Formula.Implies, Formula.Not, Formula.One, Formula.Or, Formula.Xor, Terms, Terms.End, Terms.More, compared, compared_in}
use Rattle.olap_ast.specs.{Pairs.{is_same_number, is_same_pair, pair_count}, Schema.{Constraint, Schema}}
use Rattle.olap_ast.specs.Valid.{constant_count, is_same_atom, with_new}

-- ---- the two kinds

-- an atom on a name
abbrev named : ℕ → List ℕ → Equality
named d k = record { category = d; text = k }

-- an atom on a number
abbrev numbered : ℕ → ℤ → Comparison
numbered d n = record { category = d; number = n }

-- an atom on either
abbrev at : ℕ → Constant → Compared
at d k = record { category = d; constant = k }

-- the atom on a name, if it is one
abbrev text_of : ℕ → Constant → Option Equality
text_of d (AText k) = Some (named d k)
text_of d (ANumber n) = None

-- the atom on a number, if it is one
abbrev number_of : ℕ → Constant → Option Comparison
number_of d (AText k) = None
number_of d (ANumber n) = Some (numbered d n)

-- an atom on a name is no other
only_text : (d : ℕ) (k : Constant) (a : Equality) → text_of d k ≡ Some a → at d k ≡ at a.category (AText a.text)
only_text d (AText k) a e = cc
only_text d (ANumber n) a e = absurd (cc)

-- nor is one on a number
only_number : (d : ℕ) (k : Constant) (a : Comparison) → number_of d k ≡ Some a
    → at d k ≡ at a.category (ANumber a.number)
only_number d (AText k) a e = absurd (cc)
only_number d (ANumber n) a e = cc

-- an atom on a name is like one on the same name alone
like_text : (d : ℕ) (a : Equality) (k : Constant) → is_same_atom (at a.category (AText a.text)) (at d k)
    ≡ passes (is_same_pair a) (text_of d k)
like_text d a (AText k) = refl
like_text d a (ANumber n) = and-false (a.category == d)

-- and one on a number like one on the same number
like_number : (d : ℕ) (a : Comparison) (k : Constant) → is_same_atom (at a.category (ANumber a.number)) (at d k)
    ≡ passes (is_same_number a) (number_of d k)
like_number d a (AText k) = and-false (a.category == d)
like_number d a (ANumber n) = refl

-- the atoms on names
abbrev on_names : Kind Equality
on_names = record {
  of = λ u. text_of u.category u.constant;
  atom = λ a. at a.category (AText a.text);
  same = is_same_pair;
  of_atom = λ a. refl;
  only = λ u. only_text u.category u.constant;
  alike = λ a u. like_text u.category a u.constant;
}

-- the atoms on numbers
abbrev on_integers : Kind Comparison
on_integers = record {
  of = λ u. number_of u.category u.constant;
  atom = λ a. at a.category (ANumber a.number);
  same = is_same_number;
  of_atom = λ a. refl;
  only = λ u. only_number u.category u.constant;
  alike = λ a u. like_number u.category a u.constant;
}

-- ---- the atoms of a formula

-- the atoms on names and the atoms on numbers among these
abbrev Have : List Compared → List Equality → List Comparison → Type 0
Have us es ns = (of_kind on_names us ≡ es) × (of_kind on_integers us ≡ ns)

-- those of two lists
joined : (us vs : List Compared) {es fs : List Equality} {ms ns : List Comparison} → Have us es ms → Have vs fs ns
    → Have (us ++ vs) (es ++ fs) (ms ++ ns)
joined us vs p q = (
  filter_map-append on_names.of us vs ∙ (λ i. p.0 i ++ q.0 i),
  filter_map-append on_integers.of us vs ∙ (λ i. p.1 i ++ q.1 i),
)

mutual
  -- those of a formula
  formula_has : (f : Formula) → Have (compared f) (equalities f) (comparisons f)
  formula_has (Not f) = formula_has f
  formula_has (And f g) = joined (compared f) (compared g) (formula_has f) (formula_has g)
  formula_has (Or f g) = joined (compared f) (compared g) (formula_has f) (formula_has g)
  formula_has (Implies f g) = joined (compared f) (compared g) (formula_has f) (formula_has g)
  formula_has (Iff f g) = joined (compared f) (compared g) (formula_has f) (formula_has g)
  formula_has (Xor f g) = joined (compared f) (compared g) (formula_has f) (formula_has g)
  formula_has (One ts) = terms_have ts
  formula_has f = (refl, refl)

  -- and of the parts of `one(..)`
  terms_have : (ts : Terms) → Have (compared_in ts) (equalities_of_terms ts) (comparisons_of_terms ts)
  terms_have End = (refl, refl)
  terms_have (More f ts) = joined (compared f) (compared_in ts) (formula_has f) (terms_have ts)

-- of some constraints
constraints_have : (cs : List Constraint) → Have (flat_map (λ c. compared c.formula) cs)
    (flat_map (λ c. equalities c.formula) cs) (flat_map (λ c. comparisons c.formula) cs)
constraints_have [] = (refl, refl)
constraints_have (c ∷ cs) = joined (compared c.formula) (flat_map (λ (d : Constraint). compared d.formula) cs)
    (formula_has c.formula) (constraints_have cs)

-- of some constraints and a formula
all_have : (cs : List Constraint) (q : Formula) → Have (all_compared cs q)
    (flat_map (λ c. equalities c.formula) cs ++ equalities q)
    (flat_map (λ c. comparisons c.formula) cs ++ comparisons q)
all_have cs q = joined (flat_map (λ (c : Constraint). compared c.formula) cs) (compared q)
    (constraints_have cs) (formula_has q)

-- ---- constants are those of atoms

module _ (s : Schema) (q : Formula) (d : ℕ) where
  -- a text that is a constant is that of an atom on names
  pub atom_of_text : (text : List ℕ) → IsConstant s q d (AText text) → Contains (all_equalities s q) (named d text)
  atom_of_text text c = subst (λ es. Contains es (named d text)) (all_have s.constraints q).0
      (kept on_names (all_compared s.constraints q) (named d text) c)

  -- and back
  pub text_of_atom : (text : List ℕ) → Contains (all_equalities s q) (named d text) → IsConstant s q d (AText text)
  text_of_atom text c = back on_names (all_compared s.constraints q) (named d text)
      (subst (λ es. Contains es (named d text)) (sym (all_have s.constraints q).0) c)

  -- a number that is a constant is that of an atom on numbers
  pub atom_of_number : (n : ℤ) → IsConstant s q d (ANumber n) → Contains (all_comparisons s q) (numbered d n)
  atom_of_number n c = subst (λ ns. Contains ns (numbered d n)) (all_have s.constraints q).1
      (kept on_integers (all_compared s.constraints q) (numbered d n) c)

  -- and back
  pub number_of_atom : (n : ℤ) → Contains (all_comparisons s q) (numbered d n) → IsConstant s q d (ANumber n)
  number_of_atom n c = back on_integers (all_compared s.constraints q) (numbered d n)
      (subst (λ ns. Contains ns (numbered d n)) (sym (all_have s.constraints q).1) c)

-- ---- the numbers of a category

-- those of the atoms on numbers on it
numbers_among : (d : ℕ) (us : List Compared) →
    filter_map (λ a. as_number a.constant) (filter (λ a. a.category == d) us) ≡ numbers_on d (of_kind on_integers us)
numbers_among d [] = refl
numbers_among d (a ∷ us) = go a.constant (a.category == d) refl (numbers_among d us)
  where
    go : (k : Constant) (b : Bool) → a.category == d ≡ b
        → filter_map (λ (a : Compared). as_number a.constant) (filter (λ (a : Compared). a.category == d) us)
        ≡ numbers_on d (of_kind on_integers us)
        → filter_map (λ (a : Compared). as_number a.constant)
        (cond b (at a.category k ∷ filter (λ (a : Compared). a.category == d) us)
        (filter (λ (a : Compared). a.category == d) us))
        ≡ numbers_on d (of_kind on_integers (at a.category k ∷ us))
    go (AText k) true t e = e
    go (AText k) false t e = e
    go (ANumber n) true t e = rw t (ap (λ ns. n ∷ ns) e)
    go (ANumber n) false t e = rw t e

-- the numbers are those of the atoms on numbers
pub numbers_are : (s : Schema) (q : Formula) (d : ℕ) → numbers s q d ≡ numbers_on d (all_comparisons s q)
numbers_are s q d = numbers_among d (all_compared s.constraints q)
    ∙ ap (numbers_on d) (all_have s.constraints q).1

-- ---- texts and numbers on a category

-- a text that is asked for on a category is that of an atom on it
pub atom_on_names : (d : ℕ) (es : List Equality) (text : List ℕ) → Contains (texts_on d es) text
    → Contains es (record { category = d; text = text })
atom_on_names d es text c = from_on (λ (a : Equality). a.category) (λ a. a.text) named (λ a. refl) d es text c

-- and so is a number
pub atom_on_numbers : (d : ℕ) (es : List Comparison) (n : ℤ) → Contains (numbers_on d es) n
    → Contains es (record { category = d; number = n })
atom_on_numbers d es n c = from_on (λ (a : Comparison). a.category) (λ a. a.number) numbered (λ a. refl) d es n c

module _ (s : Schema) (q : Formula) (d : ℕ) where
  -- a text on a category is a constant of it
  pub text_constant : (text : List ℕ) → Contains (texts_on d (all_equalities s q)) text
      → IsConstant s q d (AText text)
  text_constant text c = text_of_atom s q d text (atom_on_names d (all_equalities s q) text c)

  -- and back
  pub constant_text : (text : List ℕ) → IsConstant s q d (AText text)
      → Contains (texts_on d (all_equalities s q)) text
  constant_text text c = to_on (λ (a : Equality). a.category) (λ a. a.text) (all_equalities s q) (named d text)
      (atom_of_text s q d text c)

  -- a number of a category is a constant of it
  pub number_constant : (n : ℤ) → Contains (numbers s q d) n → IsConstant s q d (ANumber n)
  number_constant n c = number_of_atom s q d n (atom_on_numbers d (all_comparisons s q) n
      (subst (λ ns. Contains ns n) (numbers_are s q d) c))

  -- and back
  pub constant_number : (n : ℤ) → IsConstant s q d (ANumber n) → Contains (numbers s q d) n
  constant_number n c = subst (λ ns. Contains ns n) (sym (numbers_are s q d))
      (to_on (λ (a : Comparison). a.category) (λ a. a.number) (all_comparisons s q) (numbered d n)
      (atom_of_number s q d n c))

  -- the texts on a category in byte order are its constants in byte order
  pub constants_in_order : (texts : List (List ℕ)) → AreInByteOrder (Contains (texts_on d (all_equalities s q))) texts
      → AreInByteOrder (λ text. IsConstant s q d (AText text)) texts
  constants_in_order texts o = record {
    ordered = o.ordered;
    sound = λ text c. text_constant text (o.sound text c);
    complete = λ text c. o.complete text (constant_text text c);
  }

-- ---- counting

-- all are as many as both kinds together
both_kinds : (us : List Compared) → length us ≡ length (of_kind on_names us) + length (of_kind on_integers us)
both_kinds [] = refl
both_kinds (a ∷ us) = go a.constant (both_kinds us)
  where
    go : (k : Constant) → length us ≡ length (of_kind on_names us) + length (of_kind on_integers us)
        → suc (length us)
        ≡ length (of_kind on_names (at a.category k ∷ us)) + length (of_kind on_integers (at a.category k ∷ us))
    go (AText k) e = omega (arith, e)
    go k e = omega (arith, e)

-- the distinct ones are as many as the distinct ones of both kinds together
all_counted : (us : List Compared) {es : List Equality} {ns : List Comparison} → Have us es ns
    → constant_count us ≡ pair_count es ns
all_counted us h = both_kinds (fold (with_new is_same_atom) [] us)
    ∙ (λ i. length (kind_folded on_names us [] i) + length (kind_folded on_integers us [] i))
    ∙ (λ i. pair_count (h.0 i) (h.1 i))

-- of some constraints
pub constraints_counted : (cs : List Constraint) → constant_count (flat_map (λ c. compared c.formula) cs)
    ≡ pair_count (flat_map (λ c. equalities c.formula) cs) (flat_map (λ c. comparisons c.formula) cs)
constraints_counted cs = all_counted (flat_map (λ (c : Constraint). compared c.formula) cs) (constraints_have cs)

-- of some constraints and a formula
pub constants_counted : (cs : List Constraint) (q : Formula) → constant_count (all_compared cs q)
    ≡ pair_count (flat_map (λ c. equalities c.formula) cs ++ equalities q)
    (flat_map (λ c. comparisons c.formula) cs ++ comparisons q)
constants_counted cs q = all_counted (all_compared cs q) (all_have cs q)
