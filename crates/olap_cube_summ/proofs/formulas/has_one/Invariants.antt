-- What the formula says of the patterns below this one.
use Rattle.olap_ast.specs.Trees.{formula_of, numbers_of}
use Rattle.olap_cube_summ.{proofs.FormulaLemmas.Below, specs.Ways.IsAboutWays}
use Rattle.olap_cube_summ.proofs.formulas.has_one.Given as goal

abbrev pub invariant-patterns : goal.invariant-patterns
invariant-patterns l = record {
  says : IsAboutWays l.target.0 (numbers_of l.column) (Below l.target.0 (numbers_of l.column) l.patterns l.p)
      (formula_of l.formula);
}
