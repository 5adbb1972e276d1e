use Rattle.std.proofs.Common.{◌+◌, refl, ◌∙◌, inl, inr, arith}
use Rattle.olap_clauses.specs.Engines.{trail_of}
use Rattle.olap_frozen.specs.Leaves.{chosen_of}
use Rattle.olap_dimsat.{proofs.FollowingLemmas.{none_more, raised}, specs.Asking.task_of}
use Rattle.olap_base.proofs.GeneralLemmas.{below_or_same}
use Rattle.olap_dimsat.proofs.listing.raise.Goals as goal

pub replace-requires : goal.replace-requires
replace-requires c =
    let t = task_of c.args.a.now in
    let b = c.numbers-test.true in record {
      place = c.requires.place;
      number = c.requires.in_range (c.numbers.x + 1) (omega arith);
      suited = i.suited;
      ready = i.ready;
      best = rw i.best c.requires.best;
      pinned = rw i.best (rw i.trail c.requires.pinned);
    }
  where
    open c use {args.best.now as old, numbers.invariant as i}

pub numbers-preserved : goal.numbers-preserved
numbers-preserved c = record {
  trail = s.trail refl ∙ i.trail;
  best = s.stays refl ∙ i.best;
  none = λ k l h f v one r a q. elim (below_or_same k (c.numbers.x + 1) (omega arith)) [
    | inl b ↦ i.none k l (omega arith) f v one r a q
    | inr z ↦ s.no refl f v one r (rw i.trail a) (q ∙ z)
  ];
  suited = c.replace.ensures.suited;
  ready = c.replace.ensures.ready;
}
  where
    open c use {numbers.invariant as i, if-replace.ensures as s}

pub returns-then-replace-clause-raised : goal.returns-then-replace-clause-raised
returns-then-replace-clause-raised c = λ e.
    let t = task_of c.args.a.now in
    let x = c.numbers.x + 1 in
    let r = rw i.best at (c.if-replace.ensures.yes refl) in
    raised t c.args.p c.args.number x (chosen_of old.edges old.names) (chosen_of new.edges new.names)
    (trail_of c.args.engine.now) (trail_of c.replace.new.engine) c.args.engine.now c.requires.ready c.requires.pinned
    c.requires.number (let l = c.numbers.auto.x in omega arith) (λ k l h. i.none k l (omega arith)) r
  where
    open c use {args.best.now as old, replace.new.best as new, numbers.invariant as i}

pub returns-clause-none : goal.returns-clause-none
returns-clause-none c = λ e.
    let old = c.args.best.now in
    none_more (task_of c.args.a.now) c.args.p c.args.number c.args.most (chosen_of old.edges old.names)
    (trail_of c.args.engine.now) c.args.engine.now c.requires.ready c.requires.pinned c.requires.place c.requires.number
    c.requires.most (λ k l h. c.numbers.invariant.none k l (let b = c.numbers-test.false in omega arith))

pub numbers-init : goal.numbers-init
numbers-init c = record {
  trail = refl;
  best = refl;
  none = λ k l h. absurd (omega arith);
  suited = c.requires.suited;
  ready = c.requires.ready;
}

pub returns-then-replace-clause-pinned : goal.returns-then-replace-clause-pinned
returns-then-replace-clause-pinned c = λ _. (c.if-replace.ensures.yes refl).pinned

pub returns-then-replace-clause-best : goal.returns-then-replace-clause-best
returns-then-replace-clause-best c = c.replace.ensures.best

pub returns-then-replace-clause-suited : goal.returns-then-replace-clause-suited
returns-then-replace-clause-suited c = c.replace.ensures.suited

pub returns-then-replace-clause-ready : goal.returns-then-replace-clause-ready
returns-then-replace-clause-ready c = c.replace.ensures.ready

pub returns-clause-stays : goal.returns-clause-stays
returns-clause-stays c = λ _. c.numbers.invariant.best

pub returns-clause-best : goal.returns-clause-best
returns-clause-best c = rw c.numbers.invariant.best c.requires.best

pub returns-clause-suited : goal.returns-clause-suited
returns-clause-suited c = c.numbers.invariant.suited

pub returns-then-replace-clause-longer : goal.returns-then-replace-clause-longer
returns-then-replace-clause-longer c = λ _. rw (← c.numbers.invariant.trail) (c.if-replace.ensures.longer refl)

pub returns-clause-trail : goal.returns-clause-trail
returns-clause-trail c = λ _. c.numbers.invariant.trail
