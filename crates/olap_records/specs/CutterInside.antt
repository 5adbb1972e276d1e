-- The inside of a splitter.
--     row_of         the record that was found last
--     stand_of       where it stands
--     splitting_of   what a caller sees of it
use Rattle.std.specs.Prelude.{ℕ, Bool, true, false, List, [], ◌++◌}
use Rattle.csv.specs.Records.{fields_of, partial_of}
use Rattle.olap_records.specs.Places.{state_of}
use Rattle.olap_records.specs.Standing.{Splitting, Standing}
use Rattle.olap_records.specs.declared.steps.Place.{Place}
use Rattle.olap_records.specs.declared.cutting.Cutter.{Cutter}

-- the record that was found last
abbrev pub row_of : Cutter → List (List ℕ)
row_of s = fields_of s.row

-- after these records; a record that was found whole is none of the next
abbrev pub stand_by : List (List (List ℕ)) → Bool → List (List ℕ) → List ℕ → Place → Standing
stand_by done true fields field place = record { done = done; fields = []; field = []; state = state_of place }
stand_by done false fields field place = record { done = done; fields = fields; field = field; state = state_of place }

abbrev pub stand_of : List (List (List ℕ)) → Cutter → Standing
stand_of done s = stand_by done s.whole (fields_of s.row) (partial_of s.row ++ s.field.items) s.place

-- what a caller sees of it
abbrev pub splitting_of : Cutter → Splitting
splitting_of c = record { row = row_of c; stands = stand_of [] c }
