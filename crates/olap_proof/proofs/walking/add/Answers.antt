use Rattle.std.{proofs.Common.{ap, not, sym}, proofs.lemmas.Bool.not-true, specs.FinSet.contains}
use Rattle.olap_bits.specs.Sets.{members}
use Rattle.olap_proof.proofs.WalkingLemmas.{added_is}
use Rattle.olap_proof.proofs.walking.add.Goals as goal

pub returns-then-not-has : goal.returns-then-not-has
returns-then-not-has c =
    let old = members c.args.set.now in
    added_is old (members c.with.result) c.args.joins c.args.child.0 c.args.parent.0 c.args.grew c.with.ensures
    c.if-joins.true (sym c.if-has.ensures)
    (not-true (contains old c.args.parent.0) (sym (ap not c.if-not-has.ensures)))
