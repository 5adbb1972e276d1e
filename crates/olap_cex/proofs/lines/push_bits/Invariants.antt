-- The digits of the edges so far are appended.
use Rattle.std.proofs.Common.{◌≡◌, ◌++◌, map, take}
use Rattle.olap_cex.proofs.LineLemmas.{digit}
use Rattle.olap_cex.proofs.lines.push_bits.Given as goal

abbrev pub invariant-edges : goal.invariant-edges
invariant-edges l = l.out.items ≡ l.initial.out.items ++ map digit (take l.present-index l.edges)
