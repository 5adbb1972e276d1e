-- The rows of the members so far.
use Rattle.std.{proofs.Common.{◌≡◌, ◌<◌, length}, specs.List.range_with_len}
use Rattle.std.specs.Prelude.{◌==◌, All, filter, filter_map}
use Rattle.olap_base.specs.{Instance.category_of, Views.row_at}
use Rattle.olap_view.specs.{Seen.rows_of, StoredRows.stored_at}
use Rattle.olap_view.proofs.stored_rows.StoredRows.view.Given as goal

abbrev pub invariant-rows : goal.invariant-rows
invariant-rows l = record {
  so_far : rows_of l.rows.items ≡ filter_map (λ y. row_at y (stored_at l.self y))
      (filter (λ y. category_of l.instance y == l.c.0) (range_with_len 0 l.y));
  members : All (λ r. r.member.0 < length l.instance) l.rows.items;
}
