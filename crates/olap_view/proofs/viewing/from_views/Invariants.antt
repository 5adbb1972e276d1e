-- The rows of the chosen views so far are joined.
use Rattle.std.{proofs.Common.{◌≡◌, ◌≤◌, ◌*◌, ◌∷◌, [], length, take}, specs.Prelude.All}
use Rattle.olap_base.specs.Limits.{most_members}
use Rattle.olap_view.{proofs.StoresLemmas.rows_chosen, specs.Merging.AreMerged, specs.Seen.each_view_of}
use Rattle.olap_view.specs.Stores.{IsStored}
use Rattle.olap_view.proofs.viewing.from_views.Given as goal

abbrev pub invariant-views : goal.invariant-views
invariant-views l = record {
  instance : l.table.instance ≡ l.legal;
  categories : l.table.categories ≡ l.c.0 ∷ [];
  merged : AreMerged (rows_chosen (each_view_of (take l.k l.store.views)) l.mask) l.table;
  few : length (rows_chosen (each_view_of (take l.k l.store.views)) l.mask) ≤ l.k * most_members;
  stored : All IsStored (rows_chosen (each_view_of (take l.k l.store.views)) l.mask);
}
