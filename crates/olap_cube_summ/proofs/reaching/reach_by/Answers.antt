-- In every dimension is in each, and the other way round.
use Rattle.std.proofs.Common.{◌≡◌, ◌<◌, true, length, refl, below_more, arith}
use Rattle.olap_cube.specs.Told.{tuple_of}
use Rattle.olap_cube_summ.proofs.{PlaceLemmas.{category_count, drawn_count}, ReachingLemmas.{all_reach, each_reaches}}
use Rattle.olap_cube_summ.specs.{Dimensions.schemas_of, Reaching.ReachesAt}
use Rattle.olap_cube_summ.proofs.reaching.reach_by.Goals as goal

pub returns-then-not-reaches_at : goal.returns-then-not-reaches_at
returns-then-not-reaches_at c =
    let ss = schemas_of c.args.cube.now in
    let count = (drawn_count ss c.args.founds.now c.args.rooms.now c.requires.drawn).0 in
    let l : c.dimensions.i < length ss = omega (arith, c.len-i-end.ensures.count) in (
      λ e. absurd (cc),
      λ v. absurd (let t : c.reaches_at.result ≡ true = c.reaches_at.ensures.1 (each_reaches ss c.args.founds.now
          (tuple_of c.args.source.now) (tuple_of c.args.target.now) c.dimensions.i l (omega (arith, count)) v) in cc),
    )

pub dimensions-preserved : goal.dimensions-preserved
dimensions-preserved c =
    below_more (λ k. ReachesAt (schemas_of c.args.cube.now) c.args.founds.now (tuple_of c.args.source.now)
    (tuple_of c.args.target.now) k) c.dimensions.i c.dimensions.invariant
    (c.reaches_at.ensures.0 c.if-not-reaches_at.false)

pub returns : goal.returns
returns c =
    let ss = schemas_of c.args.cube.now in (
      λ e. all_reach ss c.args.founds.now (tuple_of c.args.source.now) (tuple_of c.args.target.now)
          (drawn_count ss c.args.founds.now c.args.rooms.now c.requires.drawn).0 (category_count ss _ c.requires.source)
          (category_count ss _ c.requires.target)
          (λ k l. c.dimensions.invariant k (omega (arith, c.len-i-end.ensures.count))),
      λ v. refl,
    )
