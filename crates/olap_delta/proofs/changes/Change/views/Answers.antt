-- One category more, and all of them.
use Rattle.std.proofs.{Common.{length, ap, arith}, lemmas.List.length-map}
use Rattle.olap_delta.proofs.ChangingLemmas.{so_far_next}
use Rattle.olap_delta.proofs.changes.Change.views.Goals as goal

pub view-requires-clause-category : goal.view-requires-clause-category
view-requires-clause-category c = grind (arith, length-map)

pub view-requires-clause-member : goal.view-requires-clause-member
view-requires-clause-member c =
    let e = ap length c.categories.invariant.instance in let h = c.requires.member in omega arith

pub view-requires-clause-storable : goal.view-requires-clause-storable
view-requires-clause-storable c = c.categories.invariant.storable

pub categories-preserved : goal.categories-preserved
categories-preserved c = grind (arith, length-map, so_far_next)
