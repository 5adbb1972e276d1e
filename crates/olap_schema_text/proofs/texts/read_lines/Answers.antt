use Rattle.std.proofs.Common.{◌∙◌, sym}
use Rattle.olap_schema_text.{proofs.LineLemmas.all_read, specs.Reading.above_of}
use Rattle.olap_schema_text.proofs.texts.read_lines.Goals as goal

pub returns : goal.returns
returns c = c.lines.invariant.read ∙ all_read (above_of c.lines.reading) c.lines.n c.lines.left.now
    (sym c.is_empty.ensures ∙ c.lines-test.false)
