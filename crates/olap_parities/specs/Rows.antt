-- Rows that add up to nothing.
--     IsZero     the columns of a row add up to nothing
use Rattle.std.specs.Prelude.{◌≡◌, ℕ, Bool, false}
use Rattle.olap_parities.specs.declared.rows.Row.{Row}
use Rattle.olap_parities.specs.Sums.{sum_of}

-- the row's columns add up to nothing, modulo 2
abbrev pub IsZero : {W : ℕ} → (ℕ → Bool) → Row W → Type 0
IsZero w row = sum_of w row.words ≡ false
