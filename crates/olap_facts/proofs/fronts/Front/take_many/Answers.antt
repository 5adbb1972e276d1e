-- Some records more, which are facts, or of which one has a fault.
use Rattle.std.proofs.{Common.{◌≡◌, ◌++◌, ◌+◌, map, length, take, ap, arith, subst, length-drop}, lemmas.List.take_all}
use Rattle.std.proofs.lemmas.Result.{err_from_is_err_and}
use Rattle.olap_base.{proofs.ListLemmas.rest_is, specs.Refusing.IsRefusedBy}
use Rattle.olap_facts.proofs.{FeedLemmas.whatever-comes, PendingLemmas.{as-many, cut-taken}}
use Rattle.olap_facts.specs.{FactText.facts_read_within, Feeding.{Fed, feeding_in}, Seen.fact_of}
use Rattle.olap_facts.proofs.fronts.Front.take_many.Goals as goal

pub settle-requires-clause-as_many : goal.settle-requires-clause-as_many
settle-requires-clause-as_many c =
    let cut = c.in_ok-taken.ensures.cut in
    as-many cut.rows c.cut.new.self cut.are

pub returns-in_err-settle-clause-feeds : goal.returns-in_err-settle-clause-feeds
returns-in_err-settle-clause-feeds c = λ fed facts h.
    let g = c.pieces.invariant.fed fed facts h in
    let cut = rw (rest_is at piece) at c.in_ok-taken.ensures.cut in
    let stands = cut-taken fed piece at n g.done c.pieces.self.splitter.stands c.cut.new.splitter.stands c.cut.new.self
    g.stands cut in
    let stop = err_from_is_err_and c.from_residual-in_err-settle.result c.from_residual-in_err-settle.ensures.1 in
    rw (stop.1, stop.2) (whatever-comes (λ rs. IsRefusedBy c.in_err-settle.field-0.0
    (facts_read_within c.args.setting.most c.args.setting.graph.now c.args.setting.instance.now rs)) fed piece (at + n)
    (g.done ++ cut.rows) c.cut.new.splitter.stands stands
    (c.in_err-settle.ensures.counts cut.rows g.done facts cut.are (rw c.pieces.invariant.begun at g.counted)))
  where
    open c use {args.piece.now as piece, pieces.at, in_ok-taken.taken as n}

pub pieces-preserved : goal.pieces-preserved
pieces-preserved c =
    let cut = rw (rest_is at piece) at c.in_ok-taken.ensures.cut in
    let told = c.cut.new.self.told in
    let count : c.len.result ≡ length told.items = omega (arith, c.len.ensures, told.ok) in
    record {
      at = omega (arith, c.in_ok-taken.ensures.taken, ap length (rest_is at piece), length-drop at piece, inv.at);
      handed = omega (arith, count, c.in_ok-settle.ensures.more, inv.handed);
      few = omega (arith, count, c.in_ok-settle.ensures.few);
      begun = inv.begun;
      table = c.in_ok-settle.ensures.table inv.table;
      fed = λ fed facts h.
          let g = inv.fed fed facts h in
          let counted = c.in_ok-settle.ensures.counts cut.rows g.done facts cut.are (rw inv.begun at g.counted) in
          record {
            done = g.done ++ cut.rows;
            stands = cut-taken fed piece at n g.done c.pieces.self.splitter.stands c.cut.new.splitter.stands
                c.cut.new.self g.stands cut;
            counted = rw (inv.begun, count) counted;
          };
    }
  where
    open c use {args.piece.now as piece, pieces.at, pieces.invariant as inv, in_ok-taken.taken as n}

pub returns-clause-feeds : goal.returns-clause-feeds
returns-clause-feeds c = λ fed facts h.
    let g = c.pieces.invariant.fed fed facts h in
    let whole : take at piece ≡ piece = take_all at piece (omega arith) in
    subst (λ xs. Fed (feeding_in s self.splitter self.handed self.begun) (fed ++ xs)
    (facts ++ map fact_of c.pieces.batch.items)) whole g
  where
    open c use {args.piece.now as piece, args.setting as s, pieces.at, pieces.self}
