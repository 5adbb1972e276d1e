-- The lines so far stand after the earlier bytes.
use Rattle.std.proofs.Common.{◌≡◌, ◌≤◌, ◌++◌, ◌-◌, drop, length, map}
use Rattle.olap_schema_text.specs.Printing.{edge_text, text_of_lines}
use Rattle.olap_schema_text.proofs.printing.push_edges.Given as goal

abbrev pub invariant-edges : goal.invariant-edges
invariant-edges l = record {
  written : l.out.items ++ text_of_lines (map (edge_text l.graph) (drop l.done l.graph.edges))
      ≡ l.initial.out.items ++ text_of_lines (map (edge_text l.graph) l.graph.edges);
  within : l.done ≤ length l.graph.edges;
}

abbrev pub decreases-edges : goal.decreases-edges
decreases-edges l = length l.graph.edges - l.done
