use Rattle.std.proofs.Common.{◌≡◌, ◌∙◌, sym, true, false}
use Rattle.olap_ast.specs.Trees.{formula_of, numbers_of}
use Rattle.olap_cube_summ.proofs.FormulaLemmas.{pattern_added, pattern_passed}
use Rattle.olap_cube_summ.proofs.formulas.has_one.Goals.{then-has+in_ok-next+in_ok-formula, else-has}
use Rattle.olap_cube_summ.proofs.formulas.has_one.Goals as goal

pub patterns-preserved : goal.patterns-preserved
patterns-preserved c = elim c.if-has.branch [
  | then-has+in_ok-next+in_ok-formula w ↦ record {
    says = rw (w.formula-is, w.in_ok-formula.ensures) (pattern_added c.args.target.0 (numbers_of c.args.column.now)
        c.args.patterns.now c.patterns.p (c.patterns-test.true, sym c.has.ensures ∙ w.if-has.true)
        (formula_of c.patterns.formula) (formula_of w.in_ok-next.next) c.patterns.invariant.says w.in_ok-next.ensures);
  }
  | else-has w ↦ record {
    says = rw w.formula-is (pattern_passed c.args.target.0 (numbers_of c.args.column.now) c.args.patterns.now
        c.patterns.p (λ h. let q : false ≡ true = sym w.if-has.false ∙ c.has.ensures ∙ h.1 in cc)
        (formula_of c.patterns.formula) c.patterns.invariant.says);
  }
]
