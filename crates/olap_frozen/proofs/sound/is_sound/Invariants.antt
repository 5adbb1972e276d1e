use Rattle.std.proofs.Common.{◌≡◌, ◌<◌, ℕ, true, false, get_or}
use Rattle.olap_graph.specs.Lookups.{edge_at}
use Rattle.olap_frozen.specs.Rows.{Fits}
use Rattle.olap_frozen.proofs.sound.is_sound.Given as goal

abbrev pub invariant-edges : goal.invariant-edges
invariant-edges l = (i : ℕ) → i < l.e → get_or l.edges i false ≡ true
    → Fits l.graph l.edges l.rows l.root.0 (edge_at l.graph i).child (edge_at l.graph i).parent
