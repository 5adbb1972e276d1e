use Rattle.std.proofs.Common.{◌++◌}
use Rattle.olap_cube_summ.{proofs.MaskLemmas.{set_taken, sets_taken}, specs.Masks.OneCanBeBad}
use Rattle.olap_cube_summ.proofs.masks.meet_all.Goals as goal

pub sets-preserved : goal.sets-preserved
sets-preserved c = record {
  left = λ n after. set_taken n c.args.sets.now after c.sets.k c.sets.met c.meets-met.result c.index-sets-k.result
      (OneCanBeBad n (c.args.sets.now ++ after) c.args.masks) c.sets-test.true c.index-sets-k.is c.meets-met.ensures
      (c.sets.invariant.left n after);
}

pub returns : goal.returns
returns c = λ n after. sets_taken n c.args.sets.now after c.sets.k c.sets.met
    (OneCanBeBad n (c.args.sets.now ++ after) c.args.masks) c.sets-test.false (c.sets.invariant.left n after)
