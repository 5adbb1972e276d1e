use Rattle.std.proofs.Common.{refl, arith}
use Rattle.olap_dimsat.proofs.StepLemmas.{agrees_at}
use Rattle.olap_dimsat.proofs.fitting.suits_all.Goals as goal

pub returns-then-not-suits-clause-no : goal.returns-then-not-suits-clause-no
returns-then-not-suits-clause-no c = λ e v r a.
    let items = c.steps-step-items.result.now in
    let h = c.steps-test.true in
    c.if-not-suits.ensures.no refl v r
    (agrees_at v items c.steps.step-index _ (omega arith)
    (rw c.steps-step-items.ensures a))

pub returns-clause-yes : goal.returns-clause-yes
returns-clause-yes c = λ _.
    let f = c.args.frozen.now in
    rw (← c.steps-step-items.ensures) (λ k d h. c.steps.invariant k d (let b = c.steps-test.false in omega arith))
