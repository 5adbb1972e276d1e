-- The inside of a reader of records.
use Rattle.std.specs.Prelude.{◌≡◌, true, false, ℕ, List, [], Some, IsSome, if◌then◌else◌}
use Rattle.std.specs.Borrow.{Bor}
use Rattle.csv.specs.Reading.{Ready, default_config, has_failed, is_flexible, reader_config, reader_state, reader_trim, source_of}
use Rattle.csv.specs.Records.{fields_of}
use Rattle.csv.specs.declared.reader.Reader.{Reader}
use Rattle.csv.specs.declared.reader.Trim.TheVariants as trim
use Rattle.olap_records.specs.Records.{Reading, records_left}
use Rattle.olap_records.specs.declared.reading.Rows.TheInside.{Inside}

-- what a caller sees of a reader; one that is done has no records left
abbrev pub reading_of : Inside → Reading
reading_of a =
    record {
      row = fields_of a.row;
      left = if a.done then [] else records_left (reader_state a.rdr) (source_of (λ s. Some s.now) a.rdr);
    }

-- a reader that has not failed reads the bytes that are left, one record at a time
abbrev pub Intact : Reader (Bor (List ℕ)) → Type 0
Intact r = has_failed r ≡ false
    → (reader_config r ≡ default_config) × (reader_trim r ≡ trim.None) × (is_flexible r ≡ true) × Ready r
    × IsSome (source_of (λ s. Some s.now) r)

-- the invariant of `Rows`: its reader is intact
abbrev pub ReadsOn : Inside → Type 0
ReadsOn a = Intact a.rdr
