-- One turn of the search, and what it did.
--     NoneAgrees   no valuation that is meant and admitted agrees with what stands now
--     TurnsSo      less is left, or nothing agrees, or the judge took what stands
use Rattle.std.specs.Prelude.{ℕ, ◌<◌, ◌≤◌, Bool, List}
use Rattle.olap_clauses.specs.declared.trails.Step.{Step}
use Rattle.olap_clauses.specs.declared.solving.Solver.{Solver}
use Rattle.olap_clauses.specs.declared.solving.Turn.{Turn}
use Rattle.olap_clauses.specs.declared.solving.Turn.TheVariants.{Decided, Failed, Taken}
use Rattle.olap_clauses.specs.Standing.{Agrees}
use Rattle.olap_clauses.specs.Ranks.{left}
use Rattle.olap_clauses.specs.Solvers.{admits, trail_of}

-- no valuation that is meant and was admitted agrees with what stands now
abbrev pub NoneAgrees : ((ℕ → Bool) → Type 0) → Solver → Solver → Type 0
NoneAgrees means old new = (v : ℕ → Bool) → means v → admits v old → Agrees v (trail_of new) → ⊥

-- less is left, or nothing agrees, or the judge took what stands
abbrev pub TurnsSo : ((ℕ → Bool) → Type 0) → (List Step → Type 0) → Solver → Solver → Turn → Type 0
TurnsSo means took old new Decided = left old.trail new.trail < left old.trail old.trail
TurnsSo means took old new Failed =
    (left old.trail new.trail ≤ left old.trail old.trail) × NoneAgrees means old new
TurnsSo means took old new Taken = took (trail_of new)
