-- What is left is enough to force the literal.
use Rattle.std.proofs.Common.{◌≤◌, subst, arith}
use Rattle.olap_clauses.{proofs.RetreatLemmas.agrees_take, specs.Standing.Agrees, specs.Trails.steps_of}
use Rattle.olap_clauses.proofs.retreating.jump.Goals as goal

pub returns-clause-forces : goal.returns-clause-forces
returns-clause-forces c = λ v t a.
    let below : from ≤ at = let h = c.branch_from-at.ensures.above in omega arith in
    c.learned_from-from.ensures.right v t
    (agrees_take v (steps_of c.args.trail.now) from at below
    (subst (λ ss. Agrees v ss) c.cut.ensures.steps a))
  where
    open c use {learned_from-from.result as from, branch_from-at.result as at}
