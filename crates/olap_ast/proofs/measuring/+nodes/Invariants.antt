-- The parts so far are counted. A formula has more nodes than a part, and a list as many as its parts.
use Rattle.std.proofs.Common.{◌≡◌, ◌+◌, ◌*◌}
use Rattle.olap_ast.specs.{Trees.{formula_of, terms_of}, Valid.{node_count, node_count_of_terms}}
use Rattle.olap_ast.proofs.measuring.+nodes.Given as goal

abbrev pub decreases-nodes : goal.decreases-nodes
decreases-nodes l = 2 * node_count (formula_of l.f.now)

abbrev pub decreases-nodes_of_terms : goal.decreases-nodes_of_terms
decreases-nodes_of_terms l = 2 * node_count_of_terms (terms_of l.terms.now) + 1

abbrev pub invariant-nodes_of_terms-parts : goal.invariant-nodes_of_terms-parts
invariant-nodes_of_terms-parts l =
    l.count + node_count_of_terms (terms_of l.left) ≡ node_count_of_terms (terms_of l.fn.terms)
