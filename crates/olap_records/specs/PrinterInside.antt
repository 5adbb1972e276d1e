-- The inside of a printer.
use Rattle.std.specs.Prelude.{◌≡◌, ◌++◌, true, false, ℕ, List, is_none}
use Rattle.csv.specs.Writing.{default_writer, fields_written, has_written, writer_pending, writer_setup, writer_under}
use Rattle.olap_records.specs.Texts.{Printing}
use Rattle.olap_records.specs.declared.printing.Printer.TheInside.{Inside}

-- what the writer has taken: what lies in the list, and then what waits in the buffer
abbrev pub text_so_far : Inside → List ℕ
text_so_far a = (writer_under a.wtr).items ++ writer_pending a.wtr

-- what a caller sees of a printer
abbrev pub printing_of : Inside → Printing
printing_of a = record { width = a.width; text = text_so_far a; live = is_none a.refused }

-- a printer of which no write failed stands between two records
abbrev pub IsBetween : Inside → Type 0
IsBetween a = is_none a.refused ≡ true → (writer_setup a.wtr ≡ default_writer) × (fields_written a.wtr ≡ 0)
    × (has_written a.wtr ≡ false)
