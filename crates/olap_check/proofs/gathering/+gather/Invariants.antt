-- The parts that are left are no more than all. The measure is the size of what is gone through.
use Rattle.std.proofs.Common.{◌≤◌, ◌+◌, ◌*◌}
use Rattle.olap_ast.specs.{Trees.{formula_of, terms_of}, Valid.{node_count, node_count_of_terms}}
use Rattle.olap_check.proofs.gathering.+gather.Given as goal

abbrev pub decreases-gather : goal.decreases-gather
decreases-gather l = 2 * node_count (formula_of l.f.now)

abbrev pub decreases-gather_terms : goal.decreases-gather_terms
decreases-gather_terms l = 2 * node_count_of_terms (terms_of l.parts.now) + 1

abbrev pub invariant-gather_terms-parts : goal.invariant-gather_terms-parts
invariant-gather_terms-parts l = node_count_of_terms (terms_of l.left) ≤ node_count_of_terms (terms_of l.fn.parts)
