-- The lines so far stand after the earlier bytes.
use Rattle.std.{proofs.Common.{◌≡◌, ◌≤◌, ◌++◌, ◌-◌, drop, length, map}, specs.Prelude.zip}
use Rattle.olap_schema_text.specs.Printing.{category_text, text_of_lines}
use Rattle.olap_schema_text.proofs.printing.push_categories.Given as goal

abbrev pub invariant-categories : goal.invariant-categories
invariant-categories l = record {
  written : l.out.items ++ text_of_lines (map category_text (drop l.done (zip l.graph.names l.graph.numbers)))
      ≡ l.initial.out.items ++ text_of_lines (map category_text (zip l.graph.names l.graph.numbers));
  within : l.done ≤ length l.graph.names;
}

abbrev pub decreases-categories : goal.decreases-categories
decreases-categories l = length l.graph.names - l.done
