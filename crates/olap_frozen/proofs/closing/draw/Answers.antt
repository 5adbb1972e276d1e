use Rattle.std.proofs.{Common.{◌≡◌, ◌+◌, ap, sym, subst, ◌∙◌, arith, get_or, false, length}, Math.ListN.length-set}
use Rattle.std.specs.FinSet.{insert}
use Rattle.olap_frozen.proofs.RowLemmas.{draw_more, draw_none, draw_skip}
use Rattle.olap_frozen.{proofs.closing.draw.Goals.{then-edges-from, else-edges-from}, specs.Rows.AreDrawn}
use Rattle.olap_graph.proofs.RowLemmas.{row_read}
use Rattle.olap_frozen.proofs.closing.draw.Goals as goal

pub edges-init : goal.edges-init
edges-init c = search draw_none

pub edges-preserved : goal.edges-preserved
edges-preserved c =
    let at = ap (λ n. get_or bits n false) (sym c.from.ensures) in
    elim c.if-edges-from.branch [
      | then-edges-from w ↦
          let i : w.from-c.result ≡ w.ends.result.0.0 = w.from-c.ensures in
          let h = w.ends.ensures.child in
          let e = w.ends.ensures.edge in
          let n = c.edges.invariant.count in
          record {
            count = ap length w.rows-is ∙ length-set c.edges.rows w.from-c.result w.with.result ∙ n;
            drawn = subst (λ rs. AreDrawn g bits (k + 1) rs) (sym w.rows-is)
                (draw_more g bits k w.from-c.result w.ends.result.1.0 c.edges.rows w.with.result
                (at ∙ w.if-edges-from.true) (e ∙ (λ z. record { child = sym i z; parent = w.ends.result.1.0 }))
                (omega arith)
                (w.with.ensures ∙ ap (λ s. insert s w.ends.result.1.0)
                (row_read c.edges.rows w.from-c.result w.index-rows-c.result (omega arith) w.index-rows-c.is))
                c.edges.invariant.drawn);
          }
      | else-edges-from w ↦ record {
        count = ap length w.rows-is ∙ c.edges.invariant.count;
        drawn = subst (λ rs. AreDrawn g bits (k + 1) rs) (sym w.rows-is)
            (draw_skip g bits k c.edges.rows (at ∙ w.if-edges-from.false) c.edges.invariant.drawn);
      }
    ]
  where
    open c use {args.graph.now as g, args.edges.now as bits, edges.e as k}
