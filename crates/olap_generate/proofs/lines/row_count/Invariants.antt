-- The rows so far. A view has fewer than 2 ^ 58 rows: its list lies in memory.
use Rattle.std.{proofs.Common.{◌≡◌, ◌*◌, ◌^◌, ◌≤◌, length, take}, specs.Prelude.sum_by}
use Rattle.olap_view.specs.declared.views.View.{View}
use Rattle.olap_generate.proofs.lines.row_count.Given as goal

abbrev pub invariant-views : goal.invariant-views
invariant-views l = record {
  whole : l.count ≡ sum_by (λ (v : View). length v.rows) (take l.view-index l.store.views);
  few : l.count ≤ l.view-index * 2 ^ 58;
}
