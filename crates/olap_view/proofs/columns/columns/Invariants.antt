-- The columns of the categories so far.
use Rattle.std.proofs.Common.{take}
use Rattle.olap_view.specs.{Columns.AreColumns, Seen.ids}
use Rattle.olap_view.proofs.columns.columns.Given as goal

abbrev pub invariant-categories : goal.invariant-categories
invariant-categories l = AreColumns l.legal (ids (take l.k l.categories)) l.columns.items
