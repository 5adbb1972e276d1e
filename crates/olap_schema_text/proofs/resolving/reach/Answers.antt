-- The fault of a name.
use Rattle.std.proofs.Common.{Ok, rules}
use Rattle.olap_schema_text.specs.{Kinds.IsRefusedAs, Known.graph_seen, Resolving.ends_read}
use Rattle.olap_ast.specs.Formula as meaning
use Rattle.olap_schema_text.proofs.resolving.reach.Goals as goal

pub returns-in_err-last_category : goal.returns-in_err-last_category
returns-in_err-last_category c =
    let g = graph_seen c.args.known.now in
    let why : IsRefusedAs c.in_err-last_category.field-0.0 (ends_read g c.args.root.0 c.args.first.now c.args.last.now
    (λ d. Ok (meaning.Formula.Reach d))) = c.in_err-last_category.ensures.read _ in
    search rules
