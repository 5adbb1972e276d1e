-- What was counted says why there is no formula.
use Rattle.std.proofs.Common.{◌∙◌, ap, sym}
use Rattle.olap_schema_text.{proofs.LongLines.{bad_form, many_nodes, too_deep}, specs.Parts.has_too_many_nodes}
use Rattle.olap_schema_text.proofs.measuring.long_form_fault.Goals as goal

pub returns-then-has_too_many_nodes : goal.returns-then-has_too_many_nodes
returns-then-has_too_many_nodes c = λ v ts behind long.
    many_nodes v c.args.before c.args.front c.args.tally.now ts behind c.requires
    (ap (has_too_many_nodes c.args.before) (sym c.saturating_sub.ensures) ∙ sym c.has_too_many_nodes.ensures
    ∙ c.if-has_too_many_nodes.true)

pub returns-then-tally : goal.returns-then-tally
returns-then-tally c = λ v ts behind long.
    too_deep v c.args.before c.args.front c.args.tally.now ts behind c.requires
    (ap (has_too_many_nodes c.args.before) (sym c.saturating_sub.ensures) ∙ sym c.has_too_many_nodes.ensures
    ∙ c.if-has_too_many_nodes.false) c.if-tally.true

pub returns : goal.returns
returns c = λ v ts behind long.
    bad_form v c.args.before c.args.front c.args.tally.now ts behind c.requires
    (ap (has_too_many_nodes c.args.before) (sym c.saturating_sub.ensures) ∙ sym c.has_too_many_nodes.ensures
    ∙ c.if-has_too_many_nodes.false) c.if-tally.false long
