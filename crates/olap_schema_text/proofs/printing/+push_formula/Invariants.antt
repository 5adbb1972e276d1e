-- The texts of the parts so far stand after the earlier bytes. The measure is the size of what is printed.
use Rattle.std.proofs.Common.{◌≡◌, ◌≤◌, ◌+◌, ◌*◌, ◌++◌}
use Rattle.olap_ast.specs.{Trees.{formula_of, terms_of}, Valid.{node_count, node_count_of_terms}}
use Rattle.olap_schema_text.specs.Printing.{rest_text}
use Rattle.olap_schema_text.proofs.printing.+push_formula.Given as goal

abbrev pub decreases-push_formula : goal.decreases-push_formula
decreases-push_formula l = 4 * node_count (formula_of l.f.now)

abbrev pub decreases-push_joined : goal.decreases-push_joined
decreases-push_joined l = 4 * (node_count (formula_of l.f.now) + node_count (formula_of l.g.now)) + 1

abbrev pub decreases-push_one : goal.decreases-push_one
decreases-push_one l = 4 * node_count_of_terms (terms_of l.terms.now) + 3

abbrev pub decreases-push_list : goal.decreases-push_list
decreases-push_list l = 4 * node_count_of_terms (terms_of l.terms.now) + 2

abbrev pub decreases-push_rest : goal.decreases-push_rest
decreases-push_rest l = 4 * node_count_of_terms (terms_of l.terms.now) + 1

abbrev pub invariant-push_rest-parts : goal.invariant-push_rest-parts
invariant-push_rest-parts l = record {
  written : l.out.items ++ rest_text l.graph l.root.0 (terms_of l.left)
      ≡ l.initial.out.items ++ rest_text l.graph l.root.0 (terms_of l.fn.terms);
  smaller : node_count_of_terms (terms_of l.left) ≤ node_count_of_terms (terms_of l.fn.terms);
}
