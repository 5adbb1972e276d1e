-- The definitions' formulas that the program's stand for.
--     formula_of       the formula of a tree
--     terms_of         the parts of a list of trees
--     constraint_of    the constraint of a stored one
--     numbers_of       the numbers of categories
use Rattle.std.specs.Prelude.{ℕ, List, map}
use Rattle.olap_base.specs.declared.ids.CatId.{CatId}
use Rattle.olap_ast.specs.Formula as Meaning
use Rattle.olap_ast.specs.Schema as schemas
use Rattle.olap_numerals.specs.Comparing as comparing
use Rattle.olap_ast.specs.declared.formulas.Constraint.{Constraint}
use Rattle.olap_ast.specs.declared.formulas.Op.{Op}
use Rattle.olap_ast.specs.declared.formulas.Op.TheVariants.{Equal, Less, AtMost}
use Rattle.olap_ast.specs.declared.formulas.Formula.{Formula}
use Rattle.olap_ast.specs.declared.formulas.Formula.TheVariants.{True, False, Path, Reach, Via, Equals, Compare, Not', And', Or', Implies', Iff', Xor', One}
use Rattle.olap_ast.specs.declared.formulas.Terms.{Terms}
use Rattle.olap_ast.specs.declared.formulas.Terms.TheVariants.{End, More'}

-- the comparison
abbrev pub op_of : Op → comparing.Op
op_of Equal = comparing.Op.Equal
op_of Less = comparing.Op.Less
op_of AtMost = comparing.Op.AtMost

abbrev mutual
  -- the formula that a tree stands for
  pub formula_of : Formula → Meaning.Formula
  formula_of True = Meaning.Formula.Truth
  formula_of False = Meaning.Formula.Falsity
  formula_of (Path cs) = Meaning.Formula.Path (map (λ c. c.0) cs)
  formula_of (Reach d) = Meaning.Formula.Reach d.0
  formula_of (Via d e) = Meaning.Formula.Via d.0 e.0
  formula_of (Equals d t) = Meaning.Formula.Equals d.0 t
  formula_of (Compare d op n) = Meaning.Formula.Compare d.0 (op_of op) n
  formula_of (Not' p f) = Meaning.Formula.Not (formula_of f)
  formula_of (And' p f q g) = Meaning.Formula.And (formula_of f) (formula_of g)
  formula_of (Or' p f q g) = Meaning.Formula.Or (formula_of f) (formula_of g)
  formula_of (Implies' p f q g) = Meaning.Formula.Implies (formula_of f) (formula_of g)
  formula_of (Iff' p f q g) = Meaning.Formula.Iff (formula_of f) (formula_of g)
  formula_of (Xor' p f q g) = Meaning.Formula.Xor (formula_of f) (formula_of g)
  formula_of (One ts) = Meaning.Formula.One (terms_of ts)

  -- the parts that a list of trees stands for
  pub terms_of : Terms → Meaning.Terms
  terms_of End = Meaning.Terms.End
  terms_of (More' p f q ts) = Meaning.Terms.More (formula_of f) (terms_of ts)

-- the constraint that a stored one stands for
abbrev pub constraint_of : Constraint → schemas.Constraint
constraint_of c = record { root = c.root.0; formula = formula_of c.formula }

-- the numbers of the categories
abbrev pub numbers_of : List CatId → List ℕ
numbers_of categories = map (λ c. c.0) categories
