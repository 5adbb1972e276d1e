use Rattle.std.proofs.Common.{◌∙◌}
use Rattle.olap_numerals.proofs.Spelling.{i64-decides, is_i64, signed-of-text, signed-parses}
use Rattle.olap_numerals.proofs.values.long_value.Goals as goal
use mir.Syntax.{w64}

pub returns-in-Ok : goal.returns-in-Ok
returns-in-Ok c =
    c.ok.ensures.value
    ∙ (rw c.in-Ok.ensures.cases.0
    at (signed-parses w64 is_i64 i64-decides c.in-Ok.text.now c.parse.result c.parse.ensures.value.0))

pub returns-in-Err : goal.returns-in-Err
returns-in-Err c = signed-of-text w64 is_i64 i64-decides c.args.text.now c.in-Err.ensures.cases.0
