use Rattle.std.proofs.Common.{◌≡◌, length, take}
use Rattle.olap_plain.proofs.searching.put_edges.Given as goal

abbrev pub invariant-edges : goal.invariant-edges
invariant-edges l = record {
  same_length : length l.into ≡ length l.edges;
  same : take l.e l.into ≡ take l.e l.edges;
}
