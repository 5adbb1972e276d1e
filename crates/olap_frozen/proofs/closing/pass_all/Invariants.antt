-- The sets have those to which steps by way of the categories so far lead.
use Rattle.std.proofs.Common.{length}
use Rattle.olap_graph.{proofs.RowLemmas.IsThrough, specs.Rows.Has}
use Rattle.olap_frozen.proofs.closing.pass_all.Given as goal

abbrev pub invariant-through : goal.invariant-through
invariant-through l = IsThrough (Has l.initial.rows) (length l.initial.rows) l.k l.rows
