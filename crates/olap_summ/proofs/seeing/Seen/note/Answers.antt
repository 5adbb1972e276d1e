use Rattle.olap_summ.proofs.{SightLemmas.keeps_both, seeing.Seen.note.Goals.{then-chosen-from, else-chosen-from}}
use Rattle.olap_summ.proofs.seeing.Seen.note.Goals as goal

pub edges-init : goal.edges-init
edges-init c = record {
  seen = c.mark_root.ensures.seen;
  root = c.mark_root.ensures.root;
  kept = c.mark_root.ensures.kept;
}

pub edges-preserved : goal.edges-preserved
edges-preserved c = elim c.if-chosen-from.branch [
  | then-chosen-from w ↦ record {
    seen = rw w.self-is w.mark_edge.ensures.seen;
    root = rw w.self-is (w.mark_edge.ensures.kept.categories _ c.edges.invariant.root);
    kept = rw w.self-is (keeps_both _ _ _ c.edges.invariant.kept w.mark_edge.ensures.kept);
  }
  | else-chosen-from w ↦ rw w.self-is c.edges.invariant
]
