use Rattle.std.{proofs.Common.{◌≡◌, ◌-◌, ℕ, Bool}, specs.Prelude.◌↔◌}
use Rattle.olap_ast.specs.Frozen.{Frozen}
use Rattle.olap_clauses.specs.{Engines.{admits, trail_of, variables_of}, Standing.AgreesDecisions}
use Rattle.olap_dimsat.{proofs.SettleLemmas.NamedSo, specs.Asking.task_of, specs.Pinned.{AreShaped, IsLonger}}
use Rattle.olap_dimsat.specs.{Reads.Reads, Tasks.IsOne}
use Rattle.olap_dimsat.proofs.settling.assume_name.Given as goal

abbrev pub invariant-indexes : goal.invariant-indexes
invariant-indexes l = record {
  say : (f : Frozen) (v : ℕ → Bool) → IsOne (task_of l.a) f → Reads (task_of l.a) f v
      → AgreesDecisions v (trail_of l.engine)
      ↔ (AgreesDecisions v (trail_of l.fn.engine) × NamedSo (task_of l.a) v l.c.0 l.i (l.j - 1));
  longer : IsLonger (trail_of l.fn.engine) (trail_of l.engine);
  shaped : AreShaped (task_of l.a) (trail_of l.engine);
  variables : variables_of l.engine ≡ variables_of l.fn.engine;
  admits : (v : ℕ → Bool) → admits v l.fn.engine → admits v l.engine;
}
