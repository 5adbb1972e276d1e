-- The fault of the root or of a name, and what comes of a constraint that has none.
use Rattle.std.proofs.Common.{rules}
use Rattle.olap_schema_text.specs.{Judging.constraint_added, Reading.above_of}
use Rattle.olap_schema_text.proofs.reading.read_constraint.Goals as goal

pub returns-in_err-root-clause-read : goal.returns-in_err-root-clause-read
returns-in_err-root-clause-read c =
    let above = above_of c.args.reading.now in
    let why = c.in_err-root.ensures (λ root. constraint_added above c.args.version root c.args.tokens.now) in
    search rules

pub returns-clause-read : goal.returns-clause-read
returns-clause-read c =
    let above = above_of c.args.reading.now in
    let read = c.in_ok-root.ensures (λ root. constraint_added above c.args.version root c.args.tokens.now) in
    search rules
