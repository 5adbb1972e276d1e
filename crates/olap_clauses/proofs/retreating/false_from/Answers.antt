-- The negation stands at that place.
use Rattle.std.proofs.Common.{◌∙◌, arith, rules}
use Rattle.olap_clauses.{proofs.RetreatLemmas.false_at, specs.Trails.steps_of}
use Rattle.olap_clauses.proofs.retreating.false_from.Goals as goal

pub returns-then-eq-clause-right : goal.returns-then-eq-clause-right
returns-then-eq-clause-right c =
    false_at (steps_of c.args.trail.now) c.place-place.result c.step.result c.args.lit
    (let h = c.if-place-len.true in omega arith)
    c.step.ensures (search (rules, c.if-eq.ensures) ∙ c.negated.ensures)
