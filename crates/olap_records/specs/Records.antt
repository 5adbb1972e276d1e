-- The records of a CSV text, as csv reads them with no header row, where they may differ in length.
--     records_of       the records of a text
--     records_after    those from a state on, in the midst of a text
--     records_left     the same, where there may be no bytes to read
--     Reading          what a caller sees of a reader
use Rattle.std.specs.Prelude.{◌+◌, ℕ, List, [], length, Option, Some, None}
use Rattle.csv.specs.Reading.{default_config, records, records_from, strip_bom}
use Rattle.csv.specs.declared.parser.State.{State}

-- every record of a text: a list of fields each, a field a list of bytes
abbrev pub records_of : List ℕ → List (List (List ℕ))
records_of text = records default_config (strip_bom text)

-- the records from a state and the bytes that are left on
abbrev pub records_after : State → List ℕ → List (List (List ℕ))
records_after s xs = records_from default_config (length xs + 1) s xs

-- the same, where the bytes are known
abbrev pub records_left : State → Option (List ℕ) → List (List (List ℕ))
records_left s None = []
records_left s (Some xs) = records_after s xs

-- what a caller sees of a reader of records: the record that it read last, and those that it has still to read
pub record Reading : Type 0 where
  pub row : List (List ℕ)
  pub left : List (List (List ℕ))
