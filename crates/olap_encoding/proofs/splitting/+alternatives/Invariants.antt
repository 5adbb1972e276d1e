-- The measure is the size of the formula.
use Rattle.olap_ast.specs.{Trees.formula_of, Valid.node_count}
use Rattle.olap_encoding.proofs.splitting.+alternatives.Given as goal

abbrev pub decreases-alternatives : goal.decreases-alternatives
decreases-alternatives l = node_count (formula_of l.f.now)
