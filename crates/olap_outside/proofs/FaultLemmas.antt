-- Counts of faults.
use Rattle.std.proofs.Common.{ℕ, arith}
use Rattle.olap_outside.specs.Faults.{Rose}

-- a count that is 0 hasn't risen
pub none_rose : (before : ℕ) → Rose before 0 → ⊥
none_rose before h = absurd (omega (arith, h))
