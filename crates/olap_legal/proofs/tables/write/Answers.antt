-- A cell more.
use Rattle.std.proofs.Common.{◌+◌, ◌<◌, length, get_or, arith, ◌∙◌, get_or-set_other}
use Rattle.olap_legal.proofs.JoiningLemmas.{write_more}
use Rattle.olap_legal.proofs.tables.write.Goals as goal

pub places-preserved : goal.places-preserved
places-preserved c =
    let y = get_or row c.from.result 0 in
    let room : start + k < length cells = omega (arith, c.requires.room, c.places.auto.cells, c.places-test.true) in
    record {
      here = rw c.from.ensures (write_more cells row reached start k room v.here);
      before = λ j h. get_or-set_other cells (start + k) j y 0 (omega (arith, h)) ∙ v.before j h;
      after = λ j h. get_or-set_other cells (start + k) j y 0 (omega (arith, h)) ∙ v.after j (omega (arith, h));
    }
  where
    open c use {
      places.k,
      places.cells,
      places.invariant as v,
      args.reached.now as reached,
      args.row.now as row,
      args.start,
    }
