use Rattle.std.proofs.Common.{map}
use Rattle.olap_ast.specs.Trees.{constraint_of, formula_of}
use Rattle.olap_names.{proofs.OrderLemmas.left, specs.Walks.limit}
use Rattle.olap_plain.proofs.SearchLemmas.{IsWalking}
use Rattle.olap_plain.proofs.searching.first_names.Given as goal

abbrev pub invariant-names : goal.invariant-names
invariant-names l = let q = l.question in IsWalking q.graph.now (map constraint_of q.constraints.now)
    (formula_of q.formula.now) q.candidates.now q.root.0 l.edges l.rows l.walk

abbrev pub decreases-names : goal.decreases-names
decreases-names l = left (limit l.question.candidates.now.texts l.walk.present) l.walk.indexes
