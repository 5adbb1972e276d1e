-- No count wraps, the lot lies within the row, and what is left may be stored.
use Rattle.std.proofs.{Common.{◌+◌, ◌≤◌, sym, subst, arith}, lemmas.Int.ints}
use Rattle.olap_view.specs.Seen.{summary_of}
use Rattle.olap_delta.{proofs.StepLemmas.{kept, lot_less_storable}, specs.Changing.IsStorable}
use Rattle.olap_view.specs.declared.summaries.Summary as told
use Rattle.olap_delta.specs.declared.changes.Change.TheVariants as by
use Rattle.olap_delta.proofs.joining.retract.Goals as goal

pub overflow_add-lot : goal.overflow_add-lot
overflow_add-lot c = let lot = c.requires.few in omega arith

pub has_room-requires : goal.has_room-requires
has_room-requires c = (kept c.args.there c.in-Some.row c.in-Some.is c.requires.there 0).few

pub returns-clause-joined : goal.returns-clause-joined
returns-clause-joined c = grind (arith, ints)

pub returns-clause-storable : goal.returns-clause-storable
returns-clause-storable c =
    let few : c.args.lot.count + 2 ≤ c.in-Some.row.count = let h = c.if-row-lot-2.false in omega arith in
    subst IsStorable (sym c.without.ensures) (lot_less_storable (summary_of c.in-Some.row) (summary_of c.args.lot)
    (kept c.args.there c.in-Some.row c.in-Some.is c.requires.there) c.requires.values few
    (c.has_room.ensures c.if-not-has_room.false))
