use Rattle.std.proofs.Common.{[], ◌∷◌, ◌++◌}
use Rattle.olap_cube_summ.proofs.MaskLemmas.{found_bad_with}
use Rattle.olap_cube_summ.proofs.masks.all_can_be_bad.Goals as goal

pub returns : goal.returns
returns c = let n = c.args.sources in let left = c.args.set.now ∷ c.args.rest.now in
    found_bad_with c.has_bad.result n c.all.result c.all.ensures.value c.args.done.now c.args.rest.now c.only.result
    c.meet_all-before.result c.args.set.now c.meets-between.result c.meet_all-met.result
    (c.only.ensures n (c.args.done.now ++ left)) (c.meet_all-before.ensures n left) c.meets-between.ensures
    (c.meet_all-met.ensures n []) c.has_bad.ensures
