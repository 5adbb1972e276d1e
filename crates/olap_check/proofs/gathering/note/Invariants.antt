-- The row grows up to the cell.
use Rattle.std.proofs.Common.{◌-◌, ◌+◌, vec_len}
use Rattle.olap_check.proofs.gathering.note.Given as goal

abbrev pub decreases-cells : goal.decreases-cells
decreases-cells l = l.cell + 1 - vec_len l.row
