-- Columns and rows under a valuation of the variables.
--     value_at       the value of a column, where these are the variables of the columns
--     column_value   the value of a column
--     row_value      the sum of a row's columns
--     part_value     the value of a variable, or nothing
--     AreZero        each row adds up to nothing
use Rattle.std.specs.Prelude.{ℕ, zero, suc, Bool, true, false, List, slice_index, All, Option, Some, None}
use Rattle.olap_parities.specs.declared.columns.Columns.{Columns}
use Rattle.olap_parities.specs.declared.rows.Row.{Row}
use Rattle.olap_parities.specs.Sums.{sum_of}
use Rattle.olap_parities.specs.Rows.{IsZero}

-- column 0 stands for what is true, and each other one for a variable
abbrev pub value_at : (ℕ → Bool) → List ℕ → ℕ → Bool
value_at v variables zero = true
value_at v variables (suc column) = v (slice_index variables column)

-- the value of a column
abbrev pub column_value : (ℕ → Bool) → Columns → ℕ → Bool
column_value v columns = value_at v columns.variables.items

-- the sum of a row's columns, modulo 2
abbrev pub row_value : {W : ℕ} → (ℕ → Bool) → Columns → Row W → Bool
row_value v columns row = sum_of (column_value v columns) row.words

-- the value of a variable, or nothing
abbrev pub part_value : (ℕ → Bool) → Option ℕ → Bool
part_value v None = false
part_value v (Some x) = v x

-- each row adds up to nothing
abbrev pub AreZero : {W : ℕ} → (ℕ → Bool) → Columns → List (Row W) → Type 0
AreZero v columns rows = All (IsZero (column_value v columns)) rows
