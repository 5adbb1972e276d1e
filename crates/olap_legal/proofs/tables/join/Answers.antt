-- A place more, with what stands there in either.
use Rattle.std.proofs.Common.{◌<◌, get_or, length, arith}
use Rattle.olap_legal.proofs.JoiningLemmas.{join_more, join_others}
use Rattle.olap_legal.proofs.tables.join.Goals as goal

pub places-preserved : goal.places-preserved
places-preserved c =
    let inside : get_or reached k 0 < length row = rw c.places.auto.row (c.requires.within k c.places-test.true) in
    let joined = rw c.from-d.ensures at c.in-Some.ensures in
    record {
      joined = rw c.from-d.ensures
          (join_more one cells row reached k y c.requires.distinct c.places-test.true inside v.joined v.others joined);
      others = rw c.from-d.ensures
          (join_others one cells row reached k y c.requires.distinct c.places-test.true inside v.joined v.others);
    }
  where
    open c use {
      places.k,
      places.row,
      places.invariant as v,
      args.row.now as one,
      args.reached.now as reached,
      args.cells.now as cells,
      in-Some.y,
    }

pub returns-clause-each : goal.returns-clause-each
returns-clause-each c = λ _ k h. c.places.invariant.joined k (omega (arith, h, c.places-test.false))

pub returns-clause-others : goal.returns-clause-others
returns-clause-others c = λ _ d ne. c.places.invariant.others d (λ j h. ne j (omega (arith, h, c.places.auto.k-end)))
