-- The category and those to which ways lead were added, or there are none.
use Rattle.std.{proofs.Common.{◌∙◌, ap, refl}, specs.FinSet.union}
use Rattle.olap_bits.specs.Sets.{members}
use Rattle.olap_proof.proofs.TouchingLemmas.{touched_from_none, touched_some}
use Rattle.olap_proof.proofs.knowing.touch_from.Goals as goal

pub returns-in-Some : goal.returns-in-Some
returns-in-Some c =
    let to = members c.args.parents.now in
    touched_some (members c.args.set.now) to (members c.union.result) c.args.child.0 c.in-Some.field-0
    (c.union.ensures ∙ ap (λ s. union s to) c.with.ensures) c.in-Some.ensures.least.is_one

pub returns-in_default : goal.returns-in_default
returns-in_default c =
    touched_from_none (members c.args.set.now) (members c.args.parents.now) c.args.child.0
    (c.in_default.ensures.none.0 refl)
