-- One clause more.
use Rattle.std.proofs.Common.{◌<◌, length, arith}
use Rattle.olap_clauses.{proofs.FactLemmas.agrees_at, specs.Trails.steps_of}
use Rattle.olap_parities.proofs.ParityLemmas.{one_literal}
use Rattle.olap_clauses.proofs.simplifying.copy_facts.Goals as goal

pub steps-preserved : goal.steps-preserved
steps-preserved c = λ v a t.
    let ss = steps_of c.args.trail.now in
    let inside : c.steps.k < length ss = omega arith in
    c.keep_if.ensures v (c.steps.invariant v a t)
    (one_literal v c.step.result.lit (agrees_at v ss c.steps.k c.step.result inside c.step.ensures a))
