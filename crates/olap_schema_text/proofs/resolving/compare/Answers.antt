-- The fault of a name.
use Rattle.std.{proofs.Common.{Err, Ok, rules}, specs.Prelude.{if◌then◌else◌, codes}}
use Rattle.olap_ast.specs.Trees.{op_of}
use Rattle.olap_base.specs.{Following.given, Graph.is_number}
use Rattle.olap_numerals.specs.Numerals.{number_of}
use Rattle.olap_schema_text.specs.{Kinds.IsRefusedAs, Known.graph_seen, Resolving.ends_read}
use Rattle.olap_ast.specs.Formula as meaning
use Rattle.olap_schema_text.proofs.resolving.compare.Goals as goal

pub returns-in_err-d : goal.returns-in_err-d
returns-in_err-d c =
    let g = graph_seen c.args.known.now in
    let why : IsRefusedAs c.in_err-d.field-0.0 (ends_read g c.args.root.0 c.args.first.now c.args.last.now
    (λ d. if is_number g d
    then given (number_of c.args.digits.now) (codes "BadNumber")
    (λ n. Ok (meaning.Formula.Compare d (op_of c.args.op) n))
    else Err (codes "WrongNames"))) = c.in_err-d.ensures.read _ in
    search rules
