use Rattle.olap_cube_summ.proofs.MaskLemmas.{judged}
use Rattle.olap_cube_summ.proofs.masks.is_bad.Goals as goal

pub returns : goal.returns
returns c =
    judged c.args.sources c.args.mask c.sources.left c.sources.count c.sources-test.false c.sources.invariant.counted
