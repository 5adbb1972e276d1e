use Rattle.std.proofs.Common.{◌≡◌, length}
use Rattle.olap_frozen.specs.Rows.{AreDrawn}
use Rattle.olap_frozen.proofs.closing.draw.Given as goal

abbrev pub invariant-edges : goal.invariant-edges
invariant-edges l = record {
  count : length l.rows ≡ length l.fn.rows;
  drawn : AreDrawn l.graph l.edges l.e l.rows;
}
