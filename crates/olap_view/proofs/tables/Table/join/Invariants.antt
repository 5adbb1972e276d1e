-- The summary is joined in the categories so far.
use Rattle.std.proofs.Common.{take}
use Rattle.olap_view.specs.{Seen.{ids, summary_of}, Tables.JoinedSoFar}
use Rattle.olap_view.proofs.tables.Table.join.Given as goal

abbrev pub invariant-categories : goal.invariant-categories
invariant-categories l =
    JoinedSoFar l.legal (ids (take l.k l.fn.self.categories.items)) l.x.0 (summary_of l.summary) l.fn.self l.self
