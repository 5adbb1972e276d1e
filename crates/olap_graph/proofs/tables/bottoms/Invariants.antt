use Rattle.std.proofs.Common.{◌≡◌, ◌≢◌, ◌↔◌, ◌<◌, ℕ, length}
use Rattle.olap_graph.specs.{Lookups.edge_at, Tables.{drawn, IsMarked}}
use Rattle.olap_graph.proofs.tables.bottoms.Given as goal

-- marked are the categories but `All` that are the parent of no edge so far
abbrev pub invariant-loop-e : goal.invariant-loop-e
invariant-loop-e l = record {
  count : length l.marks.items ≡ l.count;
  exact : (c : ℕ) → c < l.count
      → IsMarked l.marks.items c ↔ ((c ≢ 0) × ((k : ℕ) → k < l.e-index → (edge_at (drawn l.edges) k).parent ≢ c));
}
