-- The measure is the size of what is gone through.
use Rattle.std.proofs.Common.{◌+◌, ◌*◌, ◌≤◌}
use Rattle.olap_ast.specs.{Trees.{formula_of, terms_of}, Valid.{node_count, node_count_of_terms}}
use Rattle.olap_draft.proofs.steps.Words.+pushing.Given as goal

abbrev pub decreases-push : goal.decreases-push
decreases-push l = 2 * node_count (formula_of l.f.now)

abbrev pub decreases-push_both : goal.decreases-push_both
decreases-push_both l = 2 * (node_count (formula_of l.f.now) + node_count (formula_of l.g.now)) + 1

abbrev pub decreases-push_terms : goal.decreases-push_terms
decreases-push_terms l = 2 * node_count_of_terms (terms_of l.terms.now) + 1

abbrev pub invariant-push_terms-parts : goal.invariant-push_terms-parts
invariant-push_terms-parts l = node_count_of_terms (terms_of l.left) ≤ node_count_of_terms (terms_of l.fn.terms)
