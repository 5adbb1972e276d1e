-- The views of the categories so far.
use Rattle.std.{proofs.Common.{◌≡◌, ◌<◌, length, map, take}, specs.Prelude.All}
use Rattle.olap_view.specs.{Seen.{each_view_of, ids}, StoredRows.stored_at, Tables.view_by}
use Rattle.olap_view.proofs.stored_rows.StoredRows.views.Given as goal

abbrev pub invariant-categories : goal.invariant-categories
invariant-categories l = record {
  views : each_view_of l.views.items
      ≡ map (view_by l.instance (stored_at l.self)) (ids (take l.c-index l.self.categories.items));
  members : All (λ w. All (λ r. r.member.0 < length l.instance) w.rows) l.views.items;
}
