-- What the counts and the sums of rows come to, row by row.
--     next_count, next_sum   the bounds of the next row's numbers
use Rattle.std.{proofs.Common.{ℕ, pos, neg_ℤ, ◌<◌, ◌≤◌, ◌≤ℤ◌, List, length, get_or}, specs.Prelude.All}
use Rattle.olap_base.specs.Limits.{most_count, most_sum}
use Rattle.olap_view.{proofs.SeenLemmas.each_row, specs.Seen.{row_of, rows_of}, specs.Stores.IsStored}
use Rattle.olap_view.specs.declared.views.Row.{Row}

-- what stands past the last row
abbrev pub no_row : Row
no_row = record { member = record { 0 = 0 }; count = 0; sum = pos 0; least = pos 0; greatest = pos 0 }

module _ (rows : List Row) (fit : All IsStored (rows_of rows)) (k : ℕ) (h : k < length rows) where
  next : IsStored (row_of (get_or rows k no_row))
  next = each_row IsStored rows k no_row h fit

  pub next_count : (get_or rows k no_row).count ≤ most_count
  next_count = next.few

  pub next_sum : (neg_ℤ (pos most_sum) ≤ℤ (get_or rows k no_row).sum) × ((get_or rows k no_row).sum ≤ℤ pos most_sum)
  next_sum = (next.sum_from, next.sum_to)
