-- All that the category leads to was added.
use Rattle.std.proofs.Common.{◌∙◌, sym}
use Rattle.olap_bits.specs.Sets.{members}
use Rattle.olap_proof.proofs.WalkingLemmas.{added_from_is}
use Rattle.olap_proof.proofs.walking.add_from.Goals as goal

pub returns-in-Some : goal.returns-in-Some
returns-in-Some c =
    added_from_is (members c.args.set.now) (members c.args.parents.now) (members c.union.result) c.args.child.0
    c.in-Some.field-0 c.args.grew c.union.ensures c.in-Some.ensures.some.0 c.in-Some.ensures.some.1
    (sym c.has.ensures ∙ c.if-not-has.false)
