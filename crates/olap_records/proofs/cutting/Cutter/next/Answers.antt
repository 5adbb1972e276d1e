-- One byte more, and the bytes after it that only join the field.
use Rattle.std.proofs.Common.{◌+◌, ◌++◌, ◌∙◌, ap, arith, sym, false, []}
use Rattle.csv.specs.Records.{fields_of, partial_of}
use Rattle.olap_records.proofs.NextLemmas.{ended-field, ended-record, skipped}
use Rattle.olap_records.proofs.RunLemmas.{between, copied-at-hand, copied-run, none-at-hand, run-at-hand}
use Rattle.olap_records.specs.CutterInside.{stand_by, stand_of}
use Rattle.olap_records.proofs.cutting.Cutter.next.Goals as goal

pub returns-in-EndRecord-clause-stands : goal.returns-in-EndRecord-clause-stands
returns-in-EndRecord-clause-stands c =
    ended-record (stand_of [] c.args.self.now) piece c.bytes.at c.bytes-test.true (fields_of s.row)
    (partial_of s.row ++ (s.field.items ++ between c.bytes.from c.bytes.at piece)) s.place s.whole inv.part inv.stands
    p.result.0 p.result.1 p.ensures.place p.ensures.action c.in-EndRecord.is
    (fields_of c.end_field-in-EndRecord.new.row) c.in_ok-end_field-in-EndRecord.ensures.fields
  where
    open c use {bytes.self as s, bytes.invariant as inv, args.piece.now as piece, step-place as p}

pub bytes-preserved-in-Copy : goal.bytes-preserved-in-Copy
bytes-preserved-in-Copy c =
    let t = stand_of [] c.args.self.now in
    let bounds = c.run_end-at.ensures.bounds in
    let fields = fields_of s.row in
    let partial = partial_of s.row in
    record {
      part = inv.part;
      from = omega (arith, inv.from, bounds.0);
      at = bounds.1;
      stands = copied-run t piece i c.bytes-test.true fields
          (partial ++ (field ++ between from i piece)) s.place s.whole
          inv.part inv.stands p.result.0 p.result.1 p.ensures.place p.ensures.action c.in-Copy.is end bounds.0
          c.run_end-at.ensures.runs
          ∙ ap (λ xs. stand_by [] false fields xs p.result.0)
          (run-at-hand partial field from i end piece inv.from c.bytes-test.true bounds.0)
          ∙ ap (λ w. stand_by [] w fields (partial ++ (field ++ between from end piece)) p.result.0) (sym inv.part);
    }
  where
    open c use {
      bytes.self as s,
      bytes.at as i,
      bytes.from,
      bytes.invariant as inv,
      bytes.self.field.items as field,
      args.piece.now as piece,
      step-place as p,
      run_end-at.result as end,
    }

pub bytes-preserved-in-Skip : goal.bytes-preserved-in-Skip
bytes-preserved-in-Skip c =
    let fields = fields_of s.row in
    let partial = partial_of s.row in
    let rest = between c.bytes.from i piece in
    record {
      part = inv.part;
      from = omega arith;
      at = omega (arith, c.bytes-test.true);
      stands = skipped (stand_of [] c.args.self.now) piece i c.bytes-test.true fields
          (partial ++ (s.field.items ++ rest))
          s.place s.whole inv.part inv.stands p.result.0 p.result.1 p.ensures.place p.ensures.action c.in-Skip.is
          ∙ ap (λ xs. stand_by [] false fields xs p.result.0)
          (sym (copied-at-hand partial s.field.items rest new
          (i + 1) piece c.in_ok-extend_from_slice-in-Skip.ensures.items))
          ∙ ap (λ w. stand_by [] w fields (partial ++ (new ++ between (i + 1) (i + 1) piece)) p.result.0)
          (sym inv.part);
    }
  where
    open c use {
      bytes.self as s,
      bytes.at as i,
      bytes.invariant as inv,
      args.piece.now as piece,
      step-place as p,
      extend_from_slice.new.self.items as new,
    }

pub bytes-preserved : goal.bytes-preserved
bytes-preserved c =
    let row = fields_of new.row in
    let at_hand = partial_of new.row ++ (new.field.items ++ between (i + 1) (i + 1) piece) in
    record {
      part = inv.part;
      from = omega arith;
      at = omega (arith, c.bytes-test.true);
      stands = ended-field (stand_of [] c.args.self.now) piece i c.bytes-test.true (fields_of s.row)
          (partial_of s.row ++ (s.field.items ++ between c.bytes.from i piece)) s.place s.whole inv.part inv.stands
          p.result.0 p.result.1 p.ensures.place p.ensures.action c.in-EndField.is row at_hand
          c.in_ok-end_field-in-EndField.ensures.fields
          (none-at-hand (partial_of new.row) new.field.items (i + 1) piece c.in_ok-end_field-in-EndField.ensures.partial
          c.in_ok-end_field-in-EndField.ensures.field)
          ∙ ap (λ w. stand_by [] w row at_hand p.result.0) (sym inv.part);
    }
  where
    open c use {
      bytes.self as s,
      bytes.at as i,
      bytes.invariant as inv,
      args.piece.now as piece,
      step-place as p,
      end_field.new,
    }
