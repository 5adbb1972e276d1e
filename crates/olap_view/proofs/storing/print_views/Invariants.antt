-- The text of the views so far.
use Rattle.std.proofs.Common.{◌≡◌, ◌∷◌, take, flat_map}
use Rattle.olap_records.specs.Texts.{text_of_rows}
use Rattle.olap_view.specs.{Seen.each_view_of, StoreText.{header, records_of_one}}
use Rattle.olap_view.proofs.storing.print_views.Given as goal

abbrev pub invariant-views : goal.invariant-views
invariant-views l = record {
  text : l.out.text ≡ text_of_rows (header
      ∷ flat_map (records_of_one l.graph l.instance) (each_view_of (take l.view-index l.view-items)));
  width : l.out.width ≡ 6;
}
