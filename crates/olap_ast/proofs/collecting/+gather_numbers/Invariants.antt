-- The numbers of the parts so far stand after the earlier ones. The measure is the size of what is gone through.
use Rattle.std.proofs.Common.{◌≡◌, ◌≤◌, ◌+◌, ◌*◌, ◌++◌}
use Rattle.olap_ast.specs.{Atoms.{comparisons_of_terms, numbers_on}, Trees.{formula_of, terms_of}}
use Rattle.olap_ast.specs.Valid.{node_count, node_count_of_terms}
use Rattle.olap_ast.proofs.collecting.+gather_numbers.Given as goal

abbrev pub decreases-gather_numbers : goal.decreases-gather_numbers
decreases-gather_numbers l = 2 * node_count (formula_of l.f.now)

abbrev pub decreases-gather_both_numbers : goal.decreases-gather_both_numbers
decreases-gather_both_numbers l = 2 * (node_count (formula_of l.f.now) + node_count (formula_of l.g.now)) + 1

abbrev pub decreases-gather_terms_numbers : goal.decreases-gather_terms_numbers
decreases-gather_terms_numbers l = 2 * node_count_of_terms (terms_of l.terms.now) + 1

abbrev pub invariant-gather_terms_numbers-parts : goal.invariant-gather_terms_numbers-parts
invariant-gather_terms_numbers-parts l = record {
  gathered : l.numbers.items ++ numbers_on l.c.0 (comparisons_of_terms (terms_of l.left))
      ≡ l.initial.numbers.items ++ numbers_on l.c.0 (comparisons_of_terms (terms_of l.fn.terms));
  smaller : node_count_of_terms (terms_of l.left) ≤ node_count_of_terms (terms_of l.fn.terms);
}
