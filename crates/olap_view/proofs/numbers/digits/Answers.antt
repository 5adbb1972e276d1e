-- What std's parse gives is the number of 64 bits that the field's digits spell.
use Rattle.std.proofs.Common.{arith, slice_index}
use Rattle.olap_view.proofs.StoredNumbersLemmas.{digits-of-text, digits-parses}
use Rattle.olap_view.proofs.numbers.digits.Goals as goal

pub returns-in-Ok : goal.returns-in-Ok
returns-in-Ok c = grind (arith, slice_index, digits-parses)

pub returns-in-Err : goal.returns-in-Err
returns-in-Err c = digits-of-text c.args.field.now c.in-Err.ensures.cases.0
