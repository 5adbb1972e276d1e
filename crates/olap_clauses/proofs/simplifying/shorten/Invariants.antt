-- Of the literals so far those that can be true are written.
use Rattle.std.{proofs.Common.{◌≤◌, length}, specs.Prelude.vec_capacity}
use Rattle.olap_clauses.{proofs.FactLemmas.AreKept, specs.Trails.steps_of}
use Rattle.olap_clauses.proofs.simplifying.shorten.Given as goal

abbrev pub invariant-lits : goal.invariant-lits
invariant-lits l = record {
  kept : AreKept (steps_of l.trail) l.clause l.k l.work.items;
  count : length l.work.items ≤ l.k;
  room : vec_capacity l.fn.work ≤ vec_capacity l.work;
}
