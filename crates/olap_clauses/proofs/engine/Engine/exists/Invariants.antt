-- What stood stands, and nobody who is meant was lost.
use Rattle.std.proofs.Common.{◌≡◌, ℕ, Bool}
use Rattle.olap_clauses.specs.Engines.{admits, trail_of, variables_of}
use Rattle.olap_clauses.proofs.engine.Engine.exists.Given as goal

abbrev pub invariant-rounds : goal.invariant-rounds
invariant-rounds g l = record {
  trail : trail_of l.self ≡ trail_of l.fn.self;
  variables : variables_of l.self ≡ variables_of l.fn.self;
  admits : (v : ℕ → Bool) → g.J.Judge.Means l.judge v → admits v l.fn.self → admits v l.self;
  suits : g.J.Judge.Suits l.judge l.state (variables_of l.fn.self);
}
