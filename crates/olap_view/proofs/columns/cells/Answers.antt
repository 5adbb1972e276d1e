-- A cell more.
use Rattle.std.proofs.Common.{arith}
use Rattle.olap_view.proofs.ColumnLemmas.{told_more, told_start}
use Rattle.olap_view.proofs.columns.cells.Goals as goal

pub members-init : goal.members-init
members-init c = rw c.in_ok-cells.ensures.items (told_start c.args.legal.now c.args.category.0)

pub members-preserved : goal.members-preserved
members-preserved c = grind (arith, told_more)
