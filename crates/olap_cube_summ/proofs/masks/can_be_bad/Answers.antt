use Rattle.std.proofs.Common.{[]}
use Rattle.olap_cube_summ.proofs.MaskLemmas.{found_bad}
use Rattle.olap_cube_summ.proofs.masks.can_be_bad.Goals as goal

pub returns : goal.returns
returns c = let n = c.args.sources in
    found_bad c.has_bad.result n c.args.mask c.args.sets.now c.only.result c.meet_all-met.result
    (c.only.ensures n c.args.sets.now) (c.meet_all-met.ensures n []) c.has_bad.ensures
