use Rattle.olap_graph.specs.Tables.{drawn, AreOut}
use Rattle.olap_graph.proofs.tables.all_out.Given as goal

-- each category so far has the edges out of it
abbrev pub invariant-loop-category : goal.invariant-loop-category
invariant-loop-category l = AreOut (drawn l.edges) l.category l.out.items
