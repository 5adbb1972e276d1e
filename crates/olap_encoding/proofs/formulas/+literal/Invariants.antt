-- A formula has more nodes than its parts, and a list as many as its parts.
use Rattle.std.proofs.Common.{◌+◌, ◌*◌}
use Rattle.olap_ast.specs.{Trees.{formula_of, terms_of}, Valid.{node_count, node_count_of_terms}}
use Rattle.olap_encoding.proofs.formulas.+literal.Given as goal

abbrev pub decreases-literal : goal.decreases-literal
decreases-literal l = 2 * node_count (formula_of l.f.now)

abbrev pub decreases-two : goal.decreases-two
decreases-two l = 2 * (node_count (formula_of l.f.now) + node_count (formula_of l.g.now)) + 1

abbrev pub decreases-one : goal.decreases-one
decreases-one l = 2 * node_count_of_terms (terms_of l.parts.now) + 1
