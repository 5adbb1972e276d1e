use Rattle.std.{proofs.Common.{◌≡◌, drop}, specs.List.position_from, specs.Str.bytes_eq}
use Rattle.olap_graph.proofs.listing.named.Given as goal

-- no name so far is the one sought
abbrev pub invariant-loop-i : goal.invariant-loop-i
invariant-loop-i l = position_from (bytes_eq l.name) 0 l.names ≡ position_from (bytes_eq l.name) l.i (drop l.i l.names)
