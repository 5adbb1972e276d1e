-- The parents so far are visited.
use Rattle.std.proofs.Common.{take}
use Rattle.olap_base.specs.Instance.{parents_of}
use Rattle.olap_legal.specs.Rows.{IsVisit}
use Rattle.olap_legal.proofs.rising.visit.Given as goal

abbrev pub invariant-parents : goal.invariant-parents
invariant-parents l =
    let read = take l.p-index (parents_of l.instance l.z) in
    IsVisit l.instance read l.fn.row.items l.row.items l.fn.list.items l.list.items
