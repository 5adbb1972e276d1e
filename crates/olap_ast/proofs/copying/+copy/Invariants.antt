-- The copies so far, before the parts that are left, are the list. The measure is the size of what is copied.
use Rattle.std.proofs.Common.{◌≡◌, ◌≤◌, ◌+◌, ◌*◌, map}
use Rattle.olap_ast.specs.{Listing.parts_before, Trees.{formula_of, terms_of}, Valid.{node_count, node_count_of_terms}}
use Rattle.olap_ast.proofs.copying.+copy.Given as goal

abbrev pub decreases-copy : goal.decreases-copy
decreases-copy l = 2 * node_count (formula_of l.f.now)

abbrev pub decreases-copy_part : goal.decreases-copy_part
decreases-copy_part l = 2 * node_count (formula_of l.f.now) + 1

abbrev pub decreases-copy_terms : goal.decreases-copy_terms
decreases-copy_terms l = 2 * node_count_of_terms (terms_of l.terms.now) + 1

abbrev pub invariant-copy_terms-parts : goal.invariant-copy_terms-parts
invariant-copy_terms-parts l = record {
  copied : parts_before (map formula_of l.parts.items) (terms_of l.left) ≡ terms_of l.fn.terms;
  smaller : node_count_of_terms (terms_of l.left) ≤ node_count_of_terms (terms_of l.fn.terms);
}
