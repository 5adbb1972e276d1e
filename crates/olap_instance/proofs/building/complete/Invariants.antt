use Rattle.std.proofs.Common.{◌≡◌, map, take}
use Rattle.olap_instance.specs.{DraftInside.parents_told, Drafts.places_of, Passes.parents_in}
use Rattle.olap_instance.proofs.building.complete.Given as goal

abbrev pub invariant-lists : goal.invariant-lists
invariant-lists l = parents_in l.lists ≡ map (places_of l.all.0) (parents_told (take l.list-index l.parents))
