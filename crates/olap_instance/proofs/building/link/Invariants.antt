use Rattle.std.proofs.Common.{◌≡◌, ◌++◌, ◌∷◌, [], List, map, take}
use Rattle.olap_base.specs.declared.ids.MemberId.{MemberId}
use Rattle.olap_instance.specs.{DraftInside.number_of, Drafts.places_of, Passes.numbers_of}
use Rattle.olap_instance.proofs.building.link.Given as goal

abbrev pub invariant-parents : goal.invariant-parents
invariant-parents l = record {
  found : List MemberId;
  lists : l.lists ≡ l.fn.lists ++ found ∷ [];
  places : numbers_of found ≡ places_of l.all.0 (map number_of (take l.parent-index l.parents));
}
