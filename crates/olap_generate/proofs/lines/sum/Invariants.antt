-- The sums so far, each of which is of a magnitude of at most `most_sum`.
use Rattle.std.proofs.Common.{◌≡◌, ◌*◌, ℤ, pos, neg_ℤ, ◌+ℤ◌, ◌≤ℤ◌, fold, take}
use Rattle.olap_base.specs.Limits.{most_sum}
use Rattle.olap_view.specs.declared.views.Row.{Row}
use Rattle.olap_generate.proofs.lines.sum.Given as goal

abbrev pub invariant-rows : goal.invariant-rows
invariant-rows l = record {
  whole : l.sum ≡ fold (λ (s : ℤ) (r : Row). s +ℤ r.sum) (pos 0) (take l.row-index l.rows);
  from : neg_ℤ (pos (l.row-index * most_sum)) ≤ℤ l.sum;
  to : l.sum ≤ℤ pos (l.row-index * most_sum);
}
