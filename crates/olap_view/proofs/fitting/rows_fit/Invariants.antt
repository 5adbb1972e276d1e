-- The rows so far are within the bounds.
use Rattle.std.{proofs.Common.take, specs.Prelude.All}
use Rattle.olap_view.specs.{Seen.rows_of, Stores.IsStored}
use Rattle.olap_view.proofs.fitting.rows_fit.Given as goal

abbrev pub invariant-rows : goal.invariant-rows
invariant-rows l = All IsStored (rows_of (take l.row-index l.rows))
