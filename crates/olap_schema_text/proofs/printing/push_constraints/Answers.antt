use Rattle.std.proofs.Common.{◌≡◌, ◌∷◌, map, rules}
use Rattle.olap_ast.specs.Trees.{constraint_of}
use Rattle.olap_schema_text.{proofs.PrintLemmas.next_text, specs.Printing.constraint_text}
use Rattle.olap_schema_text.proofs.printing.push_constraints.Goals as goal

pub constraints-preserved : goal.constraints-preserved
constraints-preserved c =
    let text = constraint_text c.args.graph.now in
    let first : c.constraints.left.now ≡ c.in-Some.constraint.now ∷ c.in-Some.others.now = search rules in
    next_text (text (constraint_of c.in-Some.constraint.now)) (map text (map constraint_of c.in-Some.others.now)) _ _ _
    (rw first at c.constraints.invariant) c.in_ok-push_constraint.ensures
