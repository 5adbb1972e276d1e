-- The rows so far, and those of the views that are left. A view has fewer than 2 ^ 58 rows: its list lies in memory.
use Rattle.std.{proofs.Common.{◌≡◌, ◌+◌, ◌*◌, ◌^◌, ◌≤◌, length}, specs.Prelude.{ℕ, sum_by}}
use Rattle.olap_base.specs.Views.{View}
use Rattle.olap_nav.{proofs.ChosenLemmas.left, specs.Plans.rows_in}
use Rattle.olap_view.specs.Seen.{views_of}
use Rattle.olap_nav.proofs.masks.rows.Given as goal

abbrev pub invariant-views : goal.invariant-views
invariant-views l = record {
  whole : l.rows + sum_by (λ (v : View ℕ ℕ). length v.rows) (left l.store.views l.k l.mask)
      ≡ rows_in (views_of l.store) l.mask;
  few : l.rows ≤ l.k * 2 ^ 58;
}
