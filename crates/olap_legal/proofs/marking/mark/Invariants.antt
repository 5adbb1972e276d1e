-- The parents so far are marked.
use Rattle.std.proofs.Common.{take}
use Rattle.olap_base.specs.Instance.{parents_of}
use Rattle.olap_legal.specs.Marks.{IsMarking}
use Rattle.olap_legal.proofs.marking.mark.Given as goal

abbrev pub invariant-parents : goal.invariant-parents
invariant-parents l =
    let read = take l.p-index (parents_of l.instance l.z) in
    IsMarking l.instance l.category read l.fn.seen.items l.seen.items l.fn.list.items l.list.items
