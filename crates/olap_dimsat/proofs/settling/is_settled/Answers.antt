-- The trail says that the best one's number stands there.
use Rattle.std.proofs.Common.{refl, arith}
use Rattle.olap_dimsat.proofs.settling.is_settled.Goals as goal

pub returns-in-Yes : goal.returns-in-Yes
returns-in-Yes c = λ _ f v one r a.
    let q = (c.literal_at.ensures.says f v one r).0 (c.in-Yes.ensures.yes refl v a) in
    let n = c.number_at-number.ensures.number in omega arith
