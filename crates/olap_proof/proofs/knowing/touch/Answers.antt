use Rattle.std.{proofs.Common.{◌∙◌, ap}, specs.FinSet.insert}
use Rattle.olap_bits.specs.Sets.{members}
use Rattle.olap_proof.proofs.TouchingLemmas.{touched_both}
use Rattle.olap_proof.proofs.knowing.touch.Goals as goal

pub returns-then-joins : goal.returns-then-joins
returns-then-joins c =
    touched_both (members c.args.set.now) (members c.with-then-joins.result) c.args.joins c.args.child.0
    c.args.parent.0 c.if-joins.true
    (c.with-then-joins.ensures ∙ ap (λ s. insert s c.args.parent.0) c.with.ensures)
