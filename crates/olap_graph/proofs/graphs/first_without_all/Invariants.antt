use Rattle.std.proofs.Common.{◌<◌, ℕ}
use Rattle.olap_graph.specs.Rows.{Has}
use Rattle.olap_graph.proofs.graphs.first_without_all.Given as goal

-- the sets so far have `All`
abbrev pub invariant-loop-c : goal.invariant-loop-c
invariant-loop-c l = (d : ℕ) → 0 < d → d < l.c → Has l.rows d 0
