-- The sets are those from before and empty ones, and the room hasn't shrunk.
use Rattle.std.{proofs.Common.{◌≡◌, ◌-◌, ◌≤◌, ℕ, length}, specs.Prelude.vec_capacity}
use Rattle.olap_graph.specs.Rows.{row}
use Rattle.olap_trail.proofs.drawing.fill.Given as goal

abbrev pub invariant-sets : goal.invariant-sets
invariant-sets g l = record {
  same : (i : ℕ) → row l.rows.items i ≡ row l.initial.rows.items i;
  capacity : vec_capacity l.initial.rows ≤ vec_capacity l.rows;
}

abbrev pub decreases-sets : goal.decreases-sets
decreases-sets g l = l.count - length l.rows.items
