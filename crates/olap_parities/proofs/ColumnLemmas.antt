-- Rows of parities, one variable after another.
use Rattle.std.proofs.Common.{◌≡◌, ℕ, Bool, List, drop}
use Rattle.olap_parities.specs.Sums.{xor, sum_over}

-- the row so far and the variables left add up to the same
abbrev pub IsSoFar : (v : ℕ → Bool) (row : Bool) (variables : List ℕ) (k : ℕ) (odd : Bool) → Type 0
IsSoFar v row variables k odd = xor row (sum_over v (drop k variables)) ≡ xor odd (sum_over v variables)
