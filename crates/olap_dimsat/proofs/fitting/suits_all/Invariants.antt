use Rattle.std.proofs.Common.{ℕ, ◌<◌, get_or}
use Rattle.olap_clauses.specs.declared.trails.Step.{Step}
use Rattle.olap_dimsat.specs.{Asking.task_of, Reads.Suits}
use Rattle.olap_dimsat.proofs.fitting.suits_all.Given as goal

abbrev pub invariant-steps : goal.invariant-steps
invariant-steps l = (k : ℕ) (d : Step) → k < l.step-index
    → Suits (task_of l.a) l.frozen.edges l.frozen.names (get_or l.step-items k d).lit
