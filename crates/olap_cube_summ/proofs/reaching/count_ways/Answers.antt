-- One more source is counted where the roots reach the target by it.
use Rattle.std.proofs.{Common.{◌≡◌, ℕ, ◌<◌, List, true, false, length, sym, ◌∙◌, arith}, lemmas.List.map_more}
use Rattle.olap_cube.specs.Told.{tuple_of}
use Rattle.olap_cube_summ.proofs.{TupleLemmas.kept_at, reaching.count_ways.Goals.{then-reach_by, else-reach_by}}
use Rattle.olap_cube_summ.specs.{Dimensions.{AreCategoriesOf, schemas_of}, Reaching.ReachBy}
use Rattle.olap_cex.proofs.CountLemmas.{holds_more, holds_same}
use Rattle.olap_cube_summ.proofs.reaching.count_ways.Goals as goal

pub reach_by-requires-clause-source : goal.reach_by-requires-clause-source
reach_by-requires-clause-source c =
    kept_at (AreCategoriesOf (schemas_of c.args.cube.now)) c.args.sources.now c.sources.source-index
    c.source-item.result (omega arith) c.source-item.is c.requires.sources

pub sources-preserved : goal.sources-preserved
sources-preserved c =
    let P : List ℕ → Type 0 = λ t. ReachBy (schemas_of c.args.cube.now) c.args.founds.now t (tuple_of c.args.target.now)
    in
    let t = c.source-item.result in
    let inside : i < length xs = omega arith in
    let more = rw (sym c.source-item.is) at (map_more tuple_of xs i t inside) in
    elim c.if-reach_by.branch [
      | then-reach_by w ↦ record {
        few = let e = w.ways-is in omega arith;
        counted = rw (more, w.ways-is) (holds_more P _ c.sources.ways (tuple_of t) c.sources.invariant.counted
            (c.reach_by.ensures.0 w.if-reach_by.true));
      }
      | else-reach_by w ↦ record {
        few = let e = w.ways-is in omega arith;
        counted = rw (more, w.ways-is) (holds_same P _ c.sources.ways (tuple_of t) c.sources.invariant.counted
            (λ h. let t : false ≡ true = sym w.if-reach_by.false ∙ c.reach_by.ensures.1 h in cc));
      }
    ]
  where
    open c use {args.sources.now as xs, sources.source-index as i, sources.invariant.few}
