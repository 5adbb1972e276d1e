-- None of the edges so far is bypassed.
use Rattle.std.proofs.Common.{◌≡◌, ◌<◌, ℕ, map}
use Rattle.olap_trail.{proofs.BypassLemmas.NoneBypassed, proofs.WalkLemmas.more, specs.Drawing.{Joins, edge_of}}
use Rattle.olap_trail.proofs.drawing.Drawn.makes_shortcut.Given as goal

abbrev pub invariant-edges : goal.invariant-edges
invariant-edges g l = record {
  items : map edge_of l.first-items ≡ l.fn.self.edges;
  within : (c d : ℕ) → Joins l.fn.self.edges c d → (c < l.fn.self.count) × (d < l.fn.self.count);
  none : NoneBypassed l.first-items (more l.fn.self.edges l.fn.new.child.0 l.fn.new.parent.0) l.first-index;
}
