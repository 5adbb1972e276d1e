-- The texts of the parts so far stand after the earlier ones. The measure is the size of what is gone through.
use Rattle.std.proofs.Common.{◌≡◌, ◌≤◌, ◌+◌, ◌*◌, ◌++◌}
use Rattle.olap_ast.specs.{Atoms.{equalities_of_terms, texts_on}, Trees.{formula_of, terms_of}}
use Rattle.olap_ast.specs.Valid.{node_count, node_count_of_terms}
use Rattle.olap_ast.proofs.collecting.+gather.Given as goal

abbrev pub decreases-gather : goal.decreases-gather
decreases-gather l = 2 * node_count (formula_of l.f.now)

abbrev pub decreases-gather_both : goal.decreases-gather_both
decreases-gather_both l = 2 * (node_count (formula_of l.f.now) + node_count (formula_of l.g.now)) + 1

abbrev pub decreases-gather_terms : goal.decreases-gather_terms
decreases-gather_terms l = 2 * node_count_of_terms (terms_of l.terms.now) + 1

abbrev pub invariant-gather_terms-parts : goal.invariant-gather_terms-parts
invariant-gather_terms-parts l = record {
  gathered : l.texts.items ++ texts_on l.c.0 (equalities_of_terms (terms_of l.left))
      ≡ l.initial.texts.items ++ texts_on l.c.0 (equalities_of_terms (terms_of l.fn.terms));
  smaller : node_count_of_terms (terms_of l.left) ≤ node_count_of_terms (terms_of l.fn.terms);
}
