-- The fault of a name.
use Rattle.std.{proofs.Common.{Err, Ok, rules}, specs.Prelude.{if◌then◌else◌, codes}}
use Rattle.olap_base.specs.Graph.{is_number}
use Rattle.olap_schema_text.specs.{Kinds.IsRefusedAs, Known.graph_seen, Resolving.ends_read}
use Rattle.olap_ast.specs.Formula as meaning
use Rattle.olap_schema_text.proofs.resolving.equals.Goals as goal

pub returns-in_err-d : goal.returns-in_err-d
returns-in_err-d c =
    let g = graph_seen c.args.known.now in
    let why : IsRefusedAs c.in_err-d.field-0.0 (ends_read g c.args.root.0 c.args.first.now c.args.last.now
    (λ d. if is_number g d then Err (codes "WrongNames")
    else Ok (meaning.Formula.Equals d c.args.text.now))) = c.in_err-d.ensures.read _ in
    search rules
