-- No count wraps, and what comes may be stored.
use Rattle.std.proofs.Common.{◌+◌, ◌≤◌, sym, subst, arith}
use Rattle.olap_base.specs.Limits.{most_count}
use Rattle.olap_view.specs.Seen.{summary_of}
use Rattle.olap_delta.{proofs.StepLemmas.{kept, lot_joined_storable}, specs.Changing.IsStorable}
use Rattle.olap_delta.proofs.joining.append.Goals as goal

pub overflow_add-row : goal.overflow_add-row
overflow_add-row c =
    let row = (kept c.args.there c.in-Some.row c.in-Some.is c.requires.there 0).few in
    let lot = c.requires.few in omega arith

pub returns-clause-storable : goal.returns-clause-storable
returns-clause-storable c =
    let few : c.in-Some.row.count + c.args.lot.count ≤ most_count =
    let h = c.if-row-lot-gt-MOST_COUNT.false in omega arith in
    subst IsStorable (sym c.joined.ensures) (lot_joined_storable (summary_of c.in-Some.row) (summary_of c.args.lot)
    (kept c.args.there c.in-Some.row c.in-Some.is c.requires.there) c.requires.values few
    (c.has_room.ensures c.if-not-has_room.false))
