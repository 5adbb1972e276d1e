use Rattle.std.proofs.Common.{get_or, sym, ◌∙◌, arith, rules}
use Rattle.olap_numerals.proofs.Digits.{all-more, digit-within, numeral-of, room-for_digit, small-more, small-number, value-more}
use Rattle.olap_numerals.proofs.values.number.Goals as goal

pub overflow_mul-number : goal.overflow_mul-number
overflow_mul-number c =
    let few = c.requires in
    let r = room-for_digit c.digits.i c.digits.number 0 (omega arith) c.digits.invariant.small (omega arith) in
    omega arith

pub overflow_add-number : goal.overflow_add-number
overflow_add-number c =
    let few = c.requires in
    let digit = digit-within (get_or c.args.digits.now c.digits.i 0)
    (sym c.is_ascii_digit.ensures.value ∙ c.if-not-is_ascii_digit.false) in
    let high = digit.1 in
    let is = c.from.ensures in
    let r = room-for_digit c.digits.i c.digits.number c.from.result (omega arith) c.digits.invariant.small
    (omega arith) in
    omega arith

pub digits-preserved : goal.digits-preserved
digits-preserved c =
    let digit = digit-within (get_or ds i 0) (sym c.is_ascii_digit.ensures.value ∙ c.if-not-is_ascii_digit.false) in
    record {
      within = omega arith;
      value = value-more ds i n c.from.result inside digit c.from.ensures c.digits.invariant.value;
      small = small-more ds i n c.from.result inside digit c.from.ensures c.digits.invariant.small;
      all = all-more ds i n c.from.result inside digit c.from.ensures c.digits.invariant.all;
    }
  where
    open c use {args.digits.now as ds, digits.i, digits.number as n, digits-test.true as inside}

pub returns-else-is_empty-clause-numeral : goal.returns-else-is_empty-clause-numeral
returns-else-is_empty-clause-numeral c =
    let end = c.digits-test.false in
    let filled = c.if-is_empty.false in
    let e = c.is_empty.ensures in
    numeral-of c.args.digits.now (search rules) (λ j h. c.digits.invariant.all j (omega (arith, h)))

pub returns-else-is_empty-clause-small : goal.returns-else-is_empty-clause-small
returns-else-is_empty-clause-small c =
    let few = c.requires in
    small-number c.digits.i c.digits.number (omega (arith, c.digits.invariant.within)) c.digits.invariant.small
