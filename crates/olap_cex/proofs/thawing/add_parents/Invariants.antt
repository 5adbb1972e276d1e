-- The chosen edges so far are in the draft.
use Rattle.std.proofs.Common.{◌≡◌, length, take}
use Rattle.olap_ast.specs.Frozen.{chosen}
use Rattle.olap_cex.specs.FoundFor.{found_draft}
use Rattle.olap_cex.proofs.thawing.add_parents.Given as goal

abbrev pub invariant-edges : goal.invariant-edges
invariant-edges l = l.builder
    ≡ found_draft l.graph l.found (length l.graph.names) (chosen (take l.e l.graph.edges) l.found.frozen.edges)
