-- A set with a least number isn't empty.
use Rattle.olap_bits.specs.Sets.{members}
use Rattle.olap_trail.proofs.SetLemmas.{meets_is}
use Rattle.olap_trail.proofs.drawing.meets.Goals as goal

pub returns : goal.returns
returns g c =
    meets_is (members c.args.left.now) (members c.args.right.now)
    (members c.meet.result) c.first.result c.is_some.result
    c.meet.ensures c.first.ensures.none c.first.ensures.least c.is_some.ensures
