-- The measure is the size of the formula.
use Rattle.olap_ast.specs.{Trees.formula_of, Valid.node_count}
use Rattle.olap_encoding.proofs.splitting.+require.Given as goal

abbrev pub decreases-require : goal.decreases-require
decreases-require l = node_count (formula_of l.f.now)
