-- The lines so far stand after the earlier bytes.
use Rattle.std.proofs.Common.{◌≡◌, ◌++◌, length, map}
use Rattle.olap_ast.specs.Trees.{constraint_of}
use Rattle.olap_schema_text.specs.Printing.{constraint_text, text_of_lines}
use Rattle.olap_schema_text.proofs.printing.push_constraints.Given as goal

abbrev pub invariant-constraints : goal.invariant-constraints
invariant-constraints l =
    l.out.items ++ text_of_lines (map (constraint_text l.graph) (map constraint_of l.left))
    ≡ l.initial.out.items ++ text_of_lines (map (constraint_text l.graph) (map constraint_of l.fn.constraints))

abbrev pub decreases-constraints : goal.decreases-constraints
decreases-constraints l = length l.left
