-- What was admitted is admitted still.
use Rattle.std.proofs.Common.{◌≡◌, ℕ, Bool}
use Rattle.olap_clauses.specs.Engines.{admits, variables_of}
use Rattle.olap_dimsat.proofs.aiming.suppose_no_way.Given as goal

abbrev pub invariant-edges : goal.invariant-edges
invariant-edges l = record {
  variables : variables_of l.engine ≡ variables_of l.fn.engine;
  admits : (v : ℕ → Bool) → admits v l.fn.engine → admits v l.engine;
}
