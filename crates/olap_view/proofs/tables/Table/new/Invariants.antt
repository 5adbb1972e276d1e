-- The members so far have their places.
use Rattle.olap_view.specs.{Seen.ids, Tables.PlacesSoFar}
use Rattle.olap_view.proofs.tables.Table.new.Given as goal

abbrev pub invariant-places : goal.invariant-places
invariant-places l = PlacesSoFar l.instance (ids l.categories) l.y l.count l.places.items
