use Rattle.olap_ast.specs.Trees.{constraint_of}
use Rattle.olap_schema_text.proofs.PrintLemmas.{constraint_line}
use Rattle.olap_schema_text.proofs.printing.push_constraint.Goals as goal

pub returns : goal.returns
returns c =
    constraint_line c.args.graph.now (constraint_of c.args.constraint.now) _ _ _ _ c.extend_from_slice.result
    c.in_ok-push_root.ensures c.in_ok-push_formula.ensures c.extend_from_slice.ensures.items
