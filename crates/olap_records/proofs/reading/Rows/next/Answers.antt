-- A read takes the first of the records that are left.
use Rattle.std.proofs.Common.{◌≡◌, false, rules}
use Rattle.csv.specs.Records.{fields_of}
use Rattle.olap_records.proofs.Step.{left, read-takes, with-flag}
use Rattle.olap_records.proofs.reading.Rows.next.Goals as goal

pub returns : goal.returns
returns c =
    let going : c.self.inside.done ≡ false = search rules in
    rw (← c.self.view_is)
    (with-flag c.in_ok-found.found c.self.inside.done (left old) (left new) (fields_of c.read_byte_record.new.row)
    going
    (read-takes old new c.in_ok-found.found (fields_of c.read_byte_record.new.row) c.self.invariant
    (λ h. let e = c.in_ok-found.ensures.failed h in cc e) c.in_ok-found.ensures.reads))
  where
    open c use {self.inside.rdr as old, read_byte_record.new.self as new}
