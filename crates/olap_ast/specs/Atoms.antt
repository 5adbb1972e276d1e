-- The atoms on names and the atoms on numbers, apart, as the program gathers them. `ComparedLemmas` says that together
-- they are those that `compared` lists.
--     equalities      the atoms on names
--     comparisons     the atoms on numbers
--     texts_on        the texts of those on a category
--     numbers_on      the numbers
--     AreAscending    the numbers of a list, each once, ascending
--     is_constant     a text is compared with the names of a category's members
use Rattle.std.specs.Prelude.{◌==◌, ℕ, ℤ, ◌<ℤ◌, ◌↔◌, List, [], ◌∷◌, ◌++◌, Bool, filter, flat_map, map, AllPairs, Contains, IsTrue}
use mathlib.Core.List.{List-discrete}
use native.Mathlib.Decide.{ℕ_discrete}
use Rattle.olap_base.specs.Deciding.{decide_contains, is_yes, is_yes_is}
use Rattle.olap_ast.specs.Formula.{Formula, Formula.Truth, Formula.Falsity, Formula.Path, Formula.Reach, Formula.Via, Formula.Equals, Formula.Compare, Formula.Not, Formula.And, Formula.Or, Formula.Implies, Formula.Iff, Formula.Xor, Formula.One, Terms, Terms.End, Terms.More}
use Rattle.olap_ast.specs.Schema.{Schema}

-- an atom on names: a member of the category that is reached has this name
pub record Equality : Type 0 where
  pub category : ℕ
  pub text : List ℕ

abbrev mutual
  -- the atoms on names, in order
  pub equalities : Formula → List Equality
  equalities (Equals d k) = record { category = d; text = k } ∷ []
  equalities (Compare d op n) = []
  equalities (Not f) = equalities f
  equalities (And f g) = equalities f ++ equalities g
  equalities (Or f g) = equalities f ++ equalities g
  equalities (Implies f g) = equalities f ++ equalities g
  equalities (Iff f g) = equalities f ++ equalities g
  equalities (Xor f g) = equalities f ++ equalities g
  equalities (One ts) = equalities_of_terms ts
  equalities f = []

  -- the same of the parts of `one(..)`
  pub equalities_of_terms : Terms → List Equality
  equalities_of_terms End = []
  equalities_of_terms (More f ts) = equalities f ++ equalities_of_terms ts

-- an atom on numbers: a member of the category that is reached has a number that compares so with this one
pub record Comparison : Type 0 where
  pub category : ℕ
  pub number : ℤ

abbrev mutual
  -- the atoms on numbers, in order
  pub comparisons : Formula → List Comparison
  comparisons Truth = []
  comparisons Falsity = []
  comparisons (Path cs) = []
  comparisons (Reach d) = []
  comparisons (Via d e) = []
  comparisons (Equals d k) = []
  comparisons (Compare d op n) = record { category = d; number = n } ∷ []
  comparisons (Not f) = comparisons f
  comparisons (And f g) = comparisons f ++ comparisons g
  comparisons (Or f g) = comparisons f ++ comparisons g
  comparisons (Implies f g) = comparisons f ++ comparisons g
  comparisons (Iff f g) = comparisons f ++ comparisons g
  comparisons (Xor f g) = comparisons f ++ comparisons g
  comparisons (One ts) = comparisons_of_terms ts

  pub comparisons_of_terms : Terms → List Comparison
  comparisons_of_terms End = []
  comparisons_of_terms (More f ts) = comparisons f ++ comparisons_of_terms ts

-- ---- of the constraints and of a question

-- the atoms on names of the constraints and of the question
abbrev pub all_equalities : Schema → Formula → List Equality
all_equalities s q = flat_map (λ c. equalities c.formula) s.constraints ++ equalities q

-- the texts of the atoms on d
abbrev pub texts_on : ℕ → List Equality → List (List ℕ)
texts_on d atoms = map (λ a. a.text) (filter (λ a. a.category == d) atoms)

-- the atoms on numbers of the constraints and of the question
abbrev pub all_comparisons : Schema → Formula → List Comparison
all_comparisons s q = flat_map (λ c. comparisons c.formula) s.constraints ++ comparisons q

-- the numbers of the atoms on d
abbrev pub numbers_on : ℕ → List Comparison → List ℤ
numbers_on d atoms = map (λ a. a.number) (filter (λ a. a.category == d) atoms)

-- the list has exactly the numbers that another has, each once, ascending
pub record AreAscending (all ns : List ℤ) : Type 0 where
  pub ordered : AllPairs ◌<ℤ◌ ns
  pub sound : (n : ℤ) → Contains ns n → Contains all n
  pub complete : (n : ℤ) → Contains all n → Contains ns n

-- whether the text is one of an atom on d
pub is_constant : Schema → Formula → ℕ → List ℕ → Bool
is_constant s q d text = is_yes (decide_contains (List-discrete ℕ_discrete) (texts_on d (all_equalities s q)) text)

-- it is so exactly if the text is one
pub is_constant_is : (s : Schema) (q : Formula) (d : ℕ) (text : List ℕ) →
    IsTrue (is_constant s q d text) ↔ Contains (texts_on d (all_equalities s q)) text
unfolding is_constant
is_constant_is s q d text =
    is_yes_is (decide_contains (List-discrete ℕ_discrete) (texts_on d (all_equalities s q)) text)
