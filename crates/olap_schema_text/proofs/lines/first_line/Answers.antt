use Rattle.olap_schema_text.proofs.LineLemmas.{cut_first, cut_last}
use Rattle.olap_schema_text.proofs.lines.first_line.Goals as goal

pub returns-then-end-text-clause-lines : goal.returns-then-end-text-clause-lines
returns-then-end-text-clause-lines c =
    cut_first c.args.text.now c.line_end-end.result c.line_end-end.ensures.end c.if-end-text.true

pub returns-else-end-text-clause-lines : goal.returns-else-end-text-clause-lines
returns-else-end-text-clause-lines c =
    cut_last c.args.text.now c.line_end-end.result c.line_end-end.ensures.end c.requires c.if-end-text.false
