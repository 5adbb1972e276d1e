-- Three parts were taken out of the row, and nothing is left.
use Rattle.std.proofs.Common.{refl, ap, ◌∙◌}
use Rattle.olap_parities.{proofs.ParityLemmas.parts_left, specs.Columns.{column_value, part_value}, specs.Sums.xor}
use Rattle.olap_parities.proofs.parities.hand_out.Goals as goal

pub returns-then-is_empty-clause-none : goal.returns-then-is_empty-clause-none
returns-then-is_empty-clause-none c = λ r v z.
    let columns = c.args.columns.now in
    let second = part_value v c.take_out-second.result in
    c.keep_sum.ensures.none r v
    (parts_left _ _ _ _ _ _ z (c.take_truth-odd.ensures (column_value v columns) refl)
    (c.take_out-second.ensures v ∙ ap (λ b. xor b second) (c.take_out-first.ensures v))
    (c.is_empty.ensures c.if-is_empty.true (column_value v columns)))
