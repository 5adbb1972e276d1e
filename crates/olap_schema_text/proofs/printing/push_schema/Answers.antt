use Rattle.std.proofs.Common.{map}
use Rattle.olap_ast.specs.Trees.{constraint_of}
use Rattle.olap_schema_text.proofs.PrintLemmas.{all_lines}
use Rattle.olap_schema_text.proofs.printing.push_schema.Goals as goal

pub returns : goal.returns
returns c =
    all_lines (record { graph = c.args.graph.now; constraints = map constraint_of c.args.constraints.now }) _ _ _ _ _
    c.push_constraints.result c.in_ok-extend_from_slice.ensures.items c.in_ok-push_categories.ensures
    c.in_ok-push_edges.ensures c.push_constraints.ensures
