-- One more source is counted where it is a way.
use Rattle.std.proofs.{Common.{ℕ, List, get_or, map, take, arith}, lemmas.List.map_more}
use Rattle.olap_base.{proofs.GeneralLemmas.refuted, specs.declared.ids.CatId.CatId}
use Rattle.olap_cex.proofs.{CountLemmas.{holds_more, holds_same}, counting.count_ways.Goals.{then-is_way, else-is_way}}
use Rattle.olap_cex.specs.CexFor.{IsWay}
use Rattle.olap_cex.proofs.counting.count_ways.Goals as goal

pub sources-preserved : goal.sources-preserved
sources-preserved c =
    let P = IsWay c.args.rows.now c.args.root.0 c.args.target.0 in
    let x : CatId = get_or xs i (record { 0 = 0 }) in
    let front : List ℕ = map (λ s. s.0) (take i xs) in
    let more = map_more (λ (s : CatId). s.0) xs i (record { 0 = 0 }) c.sources-test.true in
    elim c.if-is_way.branch [
      | then-is_way w ↦ rw (w.ways-is, more) (record {
        few = omega (arith, few);
        counted = holds_more P front c.sources.ways x.0 counted (c.is_way.ensures.0 w.if-is_way.true);
      })
      | else-is_way w ↦ rw (w.ways-is, more) (record {
        few = omega (arith, few);
        counted = holds_same P front c.sources.ways x.0 counted
            (refuted c.is_way.result w.if-is_way.false c.is_way.ensures);
      })
    ]
  where
    open c use {args.sources.now as xs, sources.source-index as i, sources.invariant.few, sources.invariant.counted}
