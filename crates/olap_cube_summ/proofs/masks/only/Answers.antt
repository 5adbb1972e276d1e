use Rattle.olap_cube_summ.proofs.MaskLemmas.{first_mask}
use Rattle.olap_cube_summ.proofs.masks.only.Goals as goal

pub returns : goal.returns
returns c = λ n sets.
    first_mask n c.args.mask sets c.empty.result c.with.result c.requires c.empty.ensures c.with.ensures
