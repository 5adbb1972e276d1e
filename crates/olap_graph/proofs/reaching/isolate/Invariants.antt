use Rattle.std.proofs.Common.{◌≡◌, ◌<◌, ◌↔◌, ℕ, length}
use Rattle.olap_graph.specs.Rows.{Has}
use Rattle.olap_graph.proofs.reaching.isolate.Given as goal

-- each category so far has its set
abbrev pub invariant-categories : goal.invariant-categories
invariant-categories l = record {
  count : length l.rows ≡ length l.initial.rows;
  own : (c d : ℕ) → c < l.c → Has l.rows c d ↔ (c ≡ d);
}
