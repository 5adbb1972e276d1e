-- What is kept of a long line, and what was counted, refuse it.
use Rattle.std.proofs.Common.{◌∙◌, ap, not}
use Rattle.olap_grammar.specs.Cutter.{kept_of}
use Rattle.olap_schema_text.{proofs.LongLines.{no_constraint, no_formula, unversioned}, specs.Reading.above_of}
use Rattle.olap_schema_text.specs.Statements.{statement_of}
use Rattle.olap_schema_text.proofs.reading.long_line_fault.Goals as goal

pub returns-then-is_none : goal.returns-then-is_none
returns-then-is_none c = λ n ts found.
    unversioned (above_of c.args.reading.now) n (kept_of c.args.found.now) ts found c.requires.more c.requires.room
    (c.is_none.ensures ∙ ap not c.if-is_none.true)

pub returns-in-Constraint : goal.returns-in-Constraint
returns-in-Constraint c = λ n ts found.
    no_formula (above_of c.args.reading.now) n (kept_of c.args.found.now) ts found c.requires.more c.requires.room
    _ _ _ (c.is_none.ensures ∙ ap not c.if-is_none.false)
    (c.in-Constraint.ensures.says ∙ ap statement_of c.deref.ensures.value)
    (λ us b l. c.long_form_fault.ensures _ us b l)

pub returns-in_default : goal.returns-in_default
returns-in_default c = λ n ts found.
    no_constraint (above_of c.args.reading.now) n (kept_of c.args.found.now) ts found c.requires.more c.requires.room
    c.statement_in.result (c.statement_in.ensures.says ∙ ap statement_of c.deref.ensures.value)
    c.in_default.not-Constraint
