-- Rows are added up to that of the atom.
use Rattle.std.proofs.Common.{◌-◌, ◌+◌, vec_len}
use Rattle.olap_check.proofs.gathering.rows_of.Given as goal

abbrev pub decreases-rows : goal.decreases-rows
decreases-rows l = l.row + 1 - vec_len l.rows
