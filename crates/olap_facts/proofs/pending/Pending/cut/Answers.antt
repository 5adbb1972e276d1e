-- A record more, or none in the rest of the piece.
use Rattle.std.proofs.{Common.{◌∙◌, ap, arith, length, length-drop}, lemmas.Bool.{not-false, not-true}}
use Rattle.olap_base.proofs.ListLemmas.{rest_is}
use Rattle.olap_facts.proofs.{FeedLemmas.{no-cut, one-cut}, PendingLemmas.{cut-end, cut-more, cut-none-yet}}
use Rattle.olap_facts.proofs.pending.Pending.cut.Goals as goal

pub records-init : goal.records-init
records-init c =
    let e = c.clear.ensures in
    record {
      at = omega arith;
      some = λ l. let none = ap length e.told in omega (arith, l, none);
      cut = cut-none-yet c.args.piece.now c.args.splitter.now.stands c.clear.new.self e.ids e.partial e.told;
    }

pub records-preserved : goal.records-preserved
records-preserved c =
    let is-found = not-false _ c.if-not-cut.false in
    let one = one-cut piece at n c.in_ok-cut.cut.found new.row s new.stands c.in_ok-cut.ensures.stands is-found in
    let some = c.in_ok-cut.ensures.some is-found in
    record {
      at = omega (arith, c.in_ok-cut.ensures.taken, ap length (rest_is at piece), length-drop at piece, inv.at);
      some = λ _. omega (arith, some);
      cut = cut-more piece at n c.args.splitter.now.stands s new.stands c.records.self inv.cut c.push.new.self new.row
          one c.in_ok-push.ensures.ids c.in_ok-push.ensures.partial c.in_ok-push.ensures.told;
    }
  where
    open c use {
      args.piece.now as piece,
      records.at,
      records.invariant as inv,
      records.splitter.stands as s,
      in_ok-cut.cut.taken as n,
      next.new.self as new,
    }

pub returns-then-not-cut-clause-taken : goal.returns-then-not-cut-clause-taken
returns-then-not-cut-clause-taken c =
    let all = c.in_ok-cut.ensures.all (not-true _ c.if-not-cut.true) ∙ ap length (rest_is at piece) in
    let size = length-drop at piece in
    omega (arith, all, size, c.records.invariant.at)
  where
    open c use {args.piece.now as piece, records.at}

pub returns-then-not-cut-clause-some : goal.returns-then-not-cut-clause-some
returns-then-not-cut-clause-some c = λ l.
    let all = c.in_ok-cut.ensures.all (not-true _ c.if-not-cut.true) ∙ ap length (rest_is at piece) in
    let size = length-drop at piece in
    omega (arith, all, size, l, c.records.invariant.at)
  where
    open c use {args.piece.now as piece, records.at}

pub returns-then-not-cut-clause-cut : goal.returns-then-not-cut-clause-cut
returns-then-not-cut-clause-cut c =
    let none = no-cut c.args.piece.now at n c.in_ok-cut.cut.found new.row s new.stands c.in_ok-cut.ensures.stands
    (not-true _ c.if-not-cut.true) in
    cut-end c.args.piece.now at n c.args.splitter.now.stands s new.stands c.records.self c.records.invariant.cut none
  where
    open c use {records.at, records.splitter.stands as s, in_ok-cut.cut.taken as n, next.new.self as new}
