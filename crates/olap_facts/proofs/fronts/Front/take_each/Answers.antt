-- A record more, or none in the rest of the piece.
use Rattle.std.proofs.Common.{◌∷◌, ◌++◌, ◌+◌, ◌∙◌, [], length, ap, arith, length-append, length-drop}
use Rattle.std.proofs.lemmas.{Bool.{not-false, not-true}, Result.err_from_is_err_and}
use Rattle.olap_base.{proofs.ListLemmas.rest_is, specs.Refusing.IsRefusedBy}
use Rattle.olap_facts.proofs.FeedLemmas.{counted-pushed, fed-on, no-cut, one-cut, stands-end, stands-on, whatever-comes}
use Rattle.olap_facts.{proofs.TableLemmas.table-pushed, specs.FactText.facts_read_within}
use Rattle.olap_facts.proofs.fronts.Front.take_each.Goals as goal

pub returns-then-not-cut-clause-feeds : goal.returns-then-not-cut-clause-feeds
returns-then-not-cut-clause-feeds c = λ fed facts h.
    let g = c.records.invariant.fed fed facts h in
    let missing = not-true _ c.if-not-cut.true in
    let none = no-cut piece at n c.in_ok-cut.cut.found c.next.new.self.row c.records.self.splitter.stands
    c.next.new.self.stands c.in_ok-cut.ensures.stands missing in
    let all = c.in_ok-cut.ensures.all missing ∙ ap length (rest_is at piece) in
    record {
      done = g.done;
      stands = stands-end fed piece at n g.done c.records.self.splitter.stands c.next.new.self.stands g.stands none
          (omega (arith, all, length-drop at piece));
      counted = g.counted;
    }
  where
    open c use {args.piece.now as piece, records.at, in_ok-cut.cut.taken as n}

pub returns-in_err-row-clause-feeds : goal.returns-in_err-row-clause-feeds
returns-in_err-row-clause-feeds c = λ fed facts h.
    let g = c.records.invariant.fed fed facts h in
    let s = c.records.self.splitter.stands in
    let one = one-cut piece at n c.in_ok-cut.cut.found new.row s new.stands c.in_ok-cut.ensures.stands
    (not-false _ c.if-not-cut.false) in
    let stands = stands-on fed piece at n g.done (new.row ∷ []) s new.stands g.stands one in
    let stop = err_from_is_err_and c.from_residual-in_err-row.result c.from_residual-in_err-row.ensures.1 in
    rw (stop.1, stop.2) (whatever-comes (λ rs. IsRefusedBy c.in_err-row.field-0.0
    (facts_read_within c.args.setting.most c.args.setting.graph.now c.args.setting.instance.now rs)) fed piece (at + n)
    (g.done ++ new.row ∷ []) new.stands stands (c.in_err-row.ensures.counts g.done _ g.counted))
  where
    open c use {args.piece.now as piece, records.at, in_ok-cut.cut.taken as n, next.new.self as new}

pub records-preserved-in-Some : goal.records-preserved-in-Some
records-preserved-in-Some c =
    let one = one-cut piece at n c.in_ok-cut.cut.found c.next.new.self.row c.records.self.splitter.stands
    c.next.new.self.stands c.in_ok-cut.ensures.stands (not-false _ c.if-not-cut.false) in
    let few = rw c.in-Some.is at c.in_ok-row.ensures.few in
    let member = rw c.in-Some.is at c.in_ok-row.ensures.member in
    let bottom = rw c.in-Some.is at c.in_ok-row.ensures.bottom in
    let items = c.in_ok-push.ensures.items in
    let f = c.in-Some.fact in
    record {
      at = omega (arith, c.in_ok-cut.ensures.taken, ap length (rest_is at piece), length-drop at piece, inv.at);
      handed = omega (arith, ap length items, length-append c.records.batch.items (f ∷ []), inv.handed);
      few = omega (arith, few);
      table = table-pushed _ f items c.args.setting.graph.now c.args.setting.instance.now inv.table member bottom;
      fed = λ fed facts h.
          let g = inv.fed fed facts h in
          let counted = rw c.in-Some.is at c.in_ok-row.ensures.counts g.done _ g.counted in
          fed-on fed piece at n (c.next.new.self.row ∷ []) g one (counted-pushed _ facts f items counted);
    }
  where
    open c use {args.piece.now as piece, records.at, records.invariant as inv, in_ok-cut.cut.taken as n}

pub records-preserved : goal.records-preserved
records-preserved c =
    let one = one-cut piece at n c.in_ok-cut.cut.found c.next.new.self.row c.records.self.splitter.stands
    c.next.new.self.stands c.in_ok-cut.ensures.stands (not-false _ c.if-not-cut.false) in
    record {
      at = omega (arith, c.in_ok-cut.ensures.taken, ap length (rest_is at piece), length-drop at piece, inv.at);
      handed = inv.handed;
      few = inv.few;
      table = inv.table;
      fed = λ fed facts h.
          let g = inv.fed fed facts h in
          let counted = rw c.in_default.is at c.in_ok-row.ensures.counts g.done _ g.counted in
          fed-on fed piece at n (c.next.new.self.row ∷ []) g one counted;
    }
  where
    open c use {args.piece.now as piece, records.at, records.invariant as inv, in_ok-cut.cut.taken as n}
