-- It is false by as many literals or more.
use Rattle.std.proofs.Common.{◌≤◌, inr, arith}
use Rattle.olap_clauses.{proofs.RetreatLemmas.agrees_take, specs.Trails.steps_of}
use Rattle.olap_clauses.proofs.retreating.later.Goals as goal

pub returns-clause-right : goal.returns-clause-right
returns-clause-right c = inr (λ v a.
    let below : c.in_ok-n.n ≤ c.max.result = omega arith in
    c.in_ok-n.ensures.right v
    (agrees_take v (steps_of c.args.trail.now) c.in_ok-n.n c.max.result below a))
