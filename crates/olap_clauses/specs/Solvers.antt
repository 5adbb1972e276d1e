-- The trail and the valuations that a `Solver` stands for.
--     trail_of       the literals that stand
--     variables_of   how many variables there are
--     admits         the valuation is not excluded
use Rattle.std.specs.Prelude.{ℕ, Bool, List, length}
use Rattle.olap_clauses.specs.declared.trails.Step.{Step}
use Rattle.olap_clauses.specs.declared.solving.Solver.{Solver}
use Rattle.olap_clauses.specs.Trails.{steps_of, values_of}
use Rattle.olap_clauses.specs.Admits.{Admits}

-- the literals that stand, in order
abbrev pub trail_of : Solver → List Step
trail_of s = steps_of s.trail

-- how many variables there are
abbrev pub variables_of : Solver → ℕ
variables_of s = length (values_of s.trail)

-- the valuation makes each clause true, and where it first disagrees with what stands is a decision
abbrev pub admits : (ℕ → Bool) → Solver → Type 0
admits v s = Admits v s.pool s.trail
