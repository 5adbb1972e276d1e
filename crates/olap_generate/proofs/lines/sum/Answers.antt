-- No sum passes `most_sum`, and there are few rows.
use Rattle.std.proofs.{Common.{◌≡◌, ap, arith, get_or, pos, sym, to_z, of_z, ◌+ℤ◌, ◌∙◌, ℤ}, lemmas.Int.ints}
use Rattle.std.proofs.lemmas.List.Sums.{fold_more}
use Rattle.olap_view.specs.declared.views.Row.{Row}
use Rattle.olap_generate.proofs.LineLemmas.{next_sum, no_row}
use mir.Syntax.{w128}
use Rattle.olap_generate.proofs.lines.sum.Goals as goal

pub overflow_add-sum : goal.overflow_add-sum
overflow_add-sum c =
    let next = next_sum c.args.rows.now c.requires.fit c.rows.row-index c.rows-test.true in
    let from = next.0 in
    let to = next.1 in
    let so_from = c.rows.invariant.from in
    let so_to = c.rows.invariant.to in
    let few = c.requires.few in
    let within = c.rows-test.true in
    omega (arith, ints)

pub rows-preserved : goal.rows-preserved
rows-preserved c =
    let next = next_sum rows c.requires.fit k c.rows-test.true in
    let from = next.0 in
    let to = next.1 in
    let so_from = c.rows.invariant.from in
    let so_to = c.rows.invariant.to in
    let few = c.requires.few in
    let same : to_z w128 (of_z w128 (to_z w128 c.rows.sum-bits +ℤ to_z w128 (of_z w128 (get_or rows k no_row).sum)))
    ≡ to_z w128 c.rows.sum-bits +ℤ (get_or rows k no_row).sum = omega (arith, ints) in
    record {
      whole = same ∙ ap (λ (n : ℤ). n +ℤ (get_or rows k no_row).sum) c.rows.invariant.whole
          ∙ sym (fold_more (λ (s : ℤ) (r : Row). s +ℤ r.sum) (pos 0) rows k no_row within);
      from = omega (arith, ints);
      to = omega (arith, ints);
    }
  where
    open c use {args.rows.now as rows, rows.row-index as k, rows-test.true as within}
