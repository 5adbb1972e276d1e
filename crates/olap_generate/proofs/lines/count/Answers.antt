-- No count passes `most_count`, and there are few rows.
use Rattle.std.proofs.{Common.{ap, arith, sym, ◌+◌, ◌∙◌, ℕ, get_or}, lemmas.List.Sums.sum_by_more}
use Rattle.olap_view.specs.declared.views.Row.{Row}
use Rattle.olap_generate.proofs.LineLemmas.{next_count, no_row}
use Rattle.olap_generate.proofs.lines.count.Goals as goal

pub overflow_add-count : goal.overflow_add-count
overflow_add-count c =
    let next = next_count rows c.requires.fit k c.rows-test.true in
    let so_far = c.rows.invariant.few in
    let few = c.requires.few in
    omega arith
  where
    open c use {args.rows.now as rows, rows.row-index as k}

pub rows-preserved : goal.rows-preserved
rows-preserved c =
    let next = next_count rows c.requires.fit k c.rows-test.true in
    let so_far = c.rows.invariant.few in
    record {
      whole = ap (λ (n : ℕ). n + (get_or rows k no_row).count) c.rows.invariant.whole
          ∙ sym (sum_by_more (λ (r : Row). r.count) rows k no_row c.rows-test.true);
      few = omega arith;
    }
  where
    open c use {args.rows.now as rows, rows.row-index as k}
