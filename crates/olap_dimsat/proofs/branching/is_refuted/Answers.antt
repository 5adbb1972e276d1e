-- The trail says that the number's literal is false.
use Rattle.std.proofs.Common.{refl}
use Rattle.olap_dimsat.proofs.branching.is_refuted.Goals as goal

pub returns-in-No : goal.returns-in-No
returns-in-No c = λ _ f v one r a q. c.in-No.ensures.no refl v a ((c.literal_at.ensures.says f v one r).1 q)
