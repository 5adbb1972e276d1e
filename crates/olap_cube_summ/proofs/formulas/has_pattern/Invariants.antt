-- What the formula says of the first sources.
use Rattle.olap_ast.specs.Trees.{formula_of, numbers_of}
use Rattle.olap_cube_summ.specs.Ways.{HasWaysTo, IsAboutWays}
use Rattle.olap_cube_summ.proofs.formulas.has_pattern.Given as goal

abbrev pub invariant-sources : goal.invariant-sources
invariant-sources l = record {
  says : IsAboutWays l.target.0 (numbers_of l.column)
      (λ i x. HasWaysTo l.k i x l.target.0 (numbers_of l.column) l.pattern) (formula_of l.formula);
}
