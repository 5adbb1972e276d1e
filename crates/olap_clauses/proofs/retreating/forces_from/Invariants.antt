-- Of the literals so far only this one can be true, by this many of the trail.
use Rattle.std.proofs.Common.{◌≤◌, length}
use Rattle.olap_clauses.{proofs.RetreatLemmas.AreFalseFrom, specs.Trails.steps_of}
use Rattle.olap_clauses.proofs.retreating.forces_from.Given as goal

abbrev pub invariant-lits : goal.invariant-lits
invariant-lits l = record {
  false_so_far : AreFalseFrom (steps_of l.trail) l.clause l.lit l.k l.from;
  inside : l.from ≤ length (steps_of l.trail);
}
