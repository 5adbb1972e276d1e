use Rattle.std.proofs.Common.{◌≡◌, length, map}
use Rattle.olap_ast.specs.Trees.{constraint_of, formula_of}
use Rattle.olap_base.specs.Graph.{category_count}
use Rattle.olap_names.{proofs.OrderLemmas.left, specs.Names.{candidates_of, with_graph}}
use Rattle.olap_plain.{proofs.SearchLemmas.NoneEarlier, specs.Searching.code_of}
use Rattle.olap_plain.proofs.searching.least.Given as goal

abbrev pub invariant-edges : goal.invariant-edges
invariant-edges l = let q = l.question in record {
  none : NoneEarlier (with_graph q.graph.now (map constraint_of q.constraints.now))
      (formula_of q.formula.now) q.root.0 (candidates_of q.candidates.now) l.edges;
  walk : length l.walk.indexes ≡ category_count q.graph.now;
}

abbrev pub decreases-edges : goal.decreases-edges
decreases-edges l = left (λ c. 1) (code_of l.edges)
