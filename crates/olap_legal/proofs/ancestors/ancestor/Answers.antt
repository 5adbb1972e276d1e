-- What stands for a member and a category.
use Rattle.std.proofs.Common.{sym}
use Rattle.olap_legal.proofs.TableLemmas.{cell_some, cell_none}
use Rattle.olap_legal.proofs.ancestors.ancestor.Goals as goal

pub returns-else-cell-clause-some : goal.returns-else-cell-clause-some
returns-else-cell-clause-some c =
    cell_some c.args.instance.now c.args.categories c.args.x c.args.category
    _ c.args.table.now c.requires.table c.requires.x c.requires.category (sym c.get-cell.ensures) c.if-cell.false

pub returns-then-cell-clause-none : goal.returns-then-cell-clause-none
returns-then-cell-clause-none c = λ q.
    cell_none c.args.instance.now c.args.categories c.args.x c.args.category
    _ c.args.table.now c.requires.few c.requires.table c.requires.x (sym c.get-cell.ensures) c.if-cell.true
