-- What std's parse gives is the number of 128 bits that the field spells.
use Rattle.std.proofs.Common.{◌∙◌}
use Rattle.olap_numerals.proofs.Spelling.{signed-of-text, signed-parses}
use Rattle.olap_view.{proofs.StoredNumbersLemmas.wide-decides, specs.NumbersInside.is_wide}
use Rattle.olap_view.proofs.numbers.wide.Goals as goal
use mir.Syntax.{w128}

pub returns-in-Ok : goal.returns-in-Ok
returns-in-Ok c =
    c.ok.ensures.value
    ∙ (rw c.in-Ok.ensures.cases.0
    at (signed-parses w128 is_wide wide-decides c.in-Ok.text.now c.parse.result c.parse.ensures.value.0))

pub returns-in-Err : goal.returns-in-Err
returns-in-Err c = signed-of-text w128 is_wide wide-decides c.args.field.now c.in-Err.ensures.cases.0
