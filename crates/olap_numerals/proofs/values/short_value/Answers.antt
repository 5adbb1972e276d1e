use Rattle.std.{proofs.Common.{◌≡◌, subst}, specs.Str.Parse.{IsNumeral, digits_value}}
use Rattle.olap_numerals.proofs.Digits.{value-minus, value-plus}
use Rattle.olap_numerals.proofs.values.short_value.Goals as goal

pub returns-then-is_minus : goal.returns-then-is_minus
returns-then-is_minus c =
    let digits = c.unsigned-is_minus.ensures.digits in
    let n = c.in_ok-number.ensures in
    value-minus c.args.text.now c.in_ok-number.field-0 c.unsigned-is_minus.result.1 c.unsigned-is_minus.ensures.minus
    c.if-is_minus.true (subst (IsNumeral 10) digits n.numeral)
    (subst (λ ds. c.in_ok-number.field-0 ≡ digits_value 10 ds) digits n.value) n.small

pub returns-else-is_minus : goal.returns-else-is_minus
returns-else-is_minus c =
    let digits = c.unsigned-is_minus.ensures.digits in
    let n = c.in_ok-number.ensures in
    value-plus c.args.text.now c.in_ok-number.field-0 c.unsigned-is_minus.result.1 c.unsigned-is_minus.ensures.minus
    c.if-is_minus.false (subst (IsNumeral 10) digits n.numeral)
    (subst (λ ds. c.in_ok-number.field-0 ≡ digits_value 10 ds) digits n.value) n.small
