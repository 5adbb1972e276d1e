-- The fault of the root.
use Rattle.std.proofs.Common.{rules}
use Rattle.olap_grammar.specs.Shown.{form_of}
use Rattle.olap_schema_text.specs.{Judging.root_read, Kinds.IsRefusedAs, Reading.above_of, Resolving.resolved}
use Rattle.olap_base.specs.Following.{goes_on}
use Rattle.olap_schema_text.proofs.reading.rooted.Goals as goal

pub returns-in_err-root : goal.returns-in_err-root
returns-in_err-root c = λ next.
    let above = above_of c.args.reading.now in
    let why : IsRefusedAs c.in_err-root.field-0.0 (root_read above c.args.name.now
    (λ root. goes_on (resolved above.graph root (form_of c.args.form.now)) (next root))) =
    c.in_err-root.ensures.read _ in
    search rules
