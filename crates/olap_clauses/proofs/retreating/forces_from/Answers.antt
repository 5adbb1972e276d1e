-- One literal more, and all of them.
use Rattle.std.proofs.Common.{arith}
use Rattle.olap_clauses.{proofs.RetreatLemmas.{false_more, forces_by}, specs.Trails.steps_of}
use Rattle.olap_clauses.proofs.retreating.forces_from.Goals as goal

pub lits-preserved : goal.lits-preserved
lits-preserved c = record {
  false_so_far =
      false_more (steps_of c.args.trail.now) c.args.clause.now c.args.lit c.lits.k c.lits.from c.in-Some.n
      c.in-Some.ensures.later c.lits.invariant.false_so_far c.in-Some.ensures.right;
  inside = c.in-Some.ensures.bound;
}

pub returns-clause-right : goal.returns-clause-right
returns-clause-right c =
    forces_by (steps_of c.args.trail.now) c.args.clause.now c.args.lit c.lits.k c.lits.from (omega arith)
    c.lits.invariant.false_so_far
