-- Two formulas that are joined, and the literals that tell them.
--     joined    the formula that a connective makes of two
--     Joins     a literal tells it, where two literals tell the two
use Rattle.std.specs.Prelude.{ℕ}
use Rattle.olap_ast.specs.Formula.{Formula, Formula.And, Formula.Or, Formula.Implies, Formula.Iff, Formula.Xor}
use Rattle.olap_pool.specs.declared.literals.Lit.{Lit}
use Rattle.olap_encoding.specs.Encoding.{Encoding}
use Rattle.olap_encoding.specs.Formulas.{TellsAt}
use Rattle.olap_encoding.specs.declared.formulas.Connective.{Connective}
use Rattle.olap_encoding.specs.declared.formulas.Connective.TheVariants.{Conjunction, Disjunction, Implication, Equivalence, Exclusion}

-- the formula that the connective makes of two
abbrev pub joined : Connective → Formula → Formula → Formula
joined Conjunction x y = And x y
joined Disjunction x y = Or x y
joined Implication x y = Implies x y
joined Equivalence x y = Iff x y
joined Exclusion x y = Xor x y

-- where two literals tell two formulas at a category, the third tells what the connective makes of these
abbrev pub Joins : Encoding → Connective → Lit → Lit → Lit → Type 0
Joins e k a b l = (c : ℕ) (x y : Formula) → TellsAt e c a x → TellsAt e c b y → TellsAt e c l (joined k x y)
