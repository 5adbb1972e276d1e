-- A member more, which has a place of its own or needs none.
use Rattle.std.proofs.{Common.{rules, arith}, lemmas.List.length-replicate}
use Rattle.olap_view.proofs.TableLemmas.{places_add, places_skip, places_start}
use Rattle.olap_view.proofs.tables.Table.new.Goals.{then-is_among, else-is_among}
use Rattle.olap_view.proofs.tables.Table.new.Goals as goal

pub places-init : goal.places-init
places-init c = grind (arith, places_start, length-replicate)

pub places-preserved : goal.places-preserved
places-preserved c = search (rules, then-is_among, places_add, else-is_among, places_skip)
