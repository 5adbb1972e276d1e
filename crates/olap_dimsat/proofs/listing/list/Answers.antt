use Rattle.std.{proofs.Common.{subst, map, arith}, proofs.lemmas.List.length-map, specs.Prelude.IfSome}
use Rattle.olap_frozen.specs.LeastFound.{frozen_of}
use Rattle.olap_dimsat.proofs.ListedLemmas.{IsAhead, ahead_more, all_firsts, front_more, has_all, more_firsts, none_left, some_more}
use Rattle.olap_dimsat.specs.{Asking.task_of, Following.IsNext}
use Rattle.olap_dimsat.proofs.listing.list.Goals as goal

pub returns-then-len-limit-clause-too_many : goal.returns-then-len-limit-clause-too_many
returns-then-len-limit-clause-too_many c =
    let t = task_of c.args.a.now in
    let i = c.listed.invariant in
    let old = map frozen_of c.listed.list.items in
    let w = frozen_of c.listed.best in
    more_firsts t c.args.apart old w c.args.limit i.front
    (subst (λ o. IfSome o (λ p. IsAhead t c.args.apart old w)) c.in-Some.is i.ahead)
    (let l = length-map c.listed.list.items frozen_of in
    let h = c.if-len-limit.true in let n = c.len.ensures in omega arith)

pub listed-preserved : goal.listed-preserved
listed-preserved c =
    let t = task_of c.args.a.now in
    let old = map frozen_of c.listed.list.items in
    let w = frozen_of c.listed.best in
    let y = frozen_of c.next-place.new.best in
    let ahead = rw c.in-Some.is at i.ahead in
    let e = c.in_ok-add.ensures.listed in record {
      few = let n = c.in_ok-add.ensures.count in let h = c.if-len-limit.false in let l = c.len.ensures in omega arith;
      handed = c.in_ok-add.ensures.handed;
      front = rw e (front_more t c.args.apart old w i.front ahead);
      ahead = some_more c.next-place.result (IsNext t c.args.apart w y)
          (IsAhead t c.args.apart (map frozen_of c.add.new.list.items) y)
          (λ m. rw e (ahead_more t c.args.apart old w y i.front ahead m)) s.some;
      branches = s.branches;
      whole = λ q. rw e (has_all t c.args.apart old w ahead (s.none q));
      best = s.best;
      suited = s.suited;
      ready = s.ready;
    }
  where
    open c use {listed.invariant as i, next-place.ensures as s}

pub returns-clause-all : goal.returns-clause-all
returns-clause-all c =
    let t = task_of c.args.a.now in
    let i = c.listed.invariant in
    rw c.from_vec.ensures (all_firsts t c.args.apart (map frozen_of c.listed.list.items) i.front
    (i.whole (none_left c.listed.place c.in_default.not-Some)))
