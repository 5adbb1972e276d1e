-- The counts so far, each of which is at most `most_count`.
use Rattle.std.{proofs.Common.{◌≡◌, ◌*◌, ◌≤◌, take}, specs.Prelude.sum_by}
use Rattle.olap_base.specs.Limits.{most_count}
use Rattle.olap_view.specs.declared.views.Row.{Row}
use Rattle.olap_generate.proofs.lines.count.Given as goal

abbrev pub invariant-rows : goal.invariant-rows
invariant-rows l = record {
  whole : l.count ≡ sum_by (λ (r : Row). r.count) (take l.row-index l.rows);
  few : l.count ≤ l.row-index * most_count;
}
