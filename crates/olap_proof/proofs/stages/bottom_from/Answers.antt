use Rattle.std.proofs.Common.{◌≡◌, ◌∙◌, arith, true, false, sym}
use Rattle.olap_proof.proofs.StageLemmas.{bottoms_here, bottoms_skip}
use Rattle.olap_proof.proofs.stages.bottom_from.Goals as goal

pub returns-then-is_bottom-clause-some : goal.returns-then-is_bottom-clause-some
returns-then-is_bottom-clause-some c =
    c.categories.invariant
    ∙ bottoms_here c.args.graph.now c.categories.c
    (omega (arith, c.categories-test.true, c.categories-c-end.ensures.count))
    (c.is_bottom.ensures.0 c.if-is_bottom.true)

pub categories-preserved : goal.categories-preserved
categories-preserved c =
    c.categories.invariant
    ∙ bottoms_skip c.args.graph.now c.categories.c (omega (arith, c.requires, c.categories.auto.c))
    (omega (arith, c.categories-test.true, c.categories-c-end.ensures.count))
    (λ b. let z : true ≡ false = sym (c.is_bottom.ensures.1 b) ∙ c.if-is_bottom.false in cc)
