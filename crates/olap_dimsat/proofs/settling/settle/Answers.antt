use Rattle.std.proofs.Common.{refl, sym, ◌∙◌, inl, inr, arith}
use Rattle.olap_clauses.specs.Engines.{trail_of, variables_of}
use Rattle.olap_frozen.specs.Leaves.{chosen_of}
use Rattle.olap_dimsat.{proofs.MadeLemmas.suited_still, proofs.SettleLemmas.none_less, specs.Asking.task_of}
use Rattle.olap_base.proofs.GeneralLemmas.{below_or_same}
use Rattle.olap_dimsat.proofs.settling.settle.Goals as goal

pub replace-requires : goal.replace-requires
replace-requires c =
    let t = task_of c.args.a.now in
    let n = c.number_at-number.ensures.in_range in
    let b = c.numbers-test.true in record {
      place = c.requires.place;
      number = record {
        edge = λ h. let m = n.edge h in omega arith;
        name = λ h. let m = n.name h in omega arith;
      };
      suited = i.suited;
      ready = i.ready;
      best = rw i.best c.requires.best;
      pinned = rw i.best (rw i.trail c.requires.pinned);
    }
  where
    open c use {args.best.now as old, numbers.invariant as i}

pub keep-requires : goal.keep-requires
keep-requires c =
    let t = task_of c.args.a.now in record {
      task = c.requires.suited.task;
      place = c.requires.place;
      ready = i.ready;
      best = rw i.best c.requires.best;
      pinned = rw i.best (rw i.trail c.requires.pinned);
      variables = i.suited.variables;
    }
  where
    open c use {args.best.now as old, numbers.invariant as i}

pub numbers-preserved : goal.numbers-preserved
numbers-preserved c = record {
  trail = s.trail refl ∙ i.trail;
  best = s.stays refl ∙ i.best;
  none = λ k h f v one r a q. elim (below_or_same k c.numbers.x h) [
    | inl l ↦ i.none k l f v one r a q
    | inr z ↦ s.no refl f v one r (rw i.trail a) (q ∙ z)
  ];
  suited = c.replace.ensures.suited;
  ready = c.replace.ensures.ready;
}
  where
    open c use {numbers.invariant as i, if-replace.ensures as s}

pub returns-then-replace-clause-least : goal.returns-then-replace-clause-least
returns-then-replace-clause-least c =
    let t = task_of c.args.a.now in
    let r = rw i.best at (c.if-replace.ensures.yes refl) in
    none_less t c.args.p c.numbers.x (chosen_of old.edges old.names) (chosen_of new.edges new.names)
    (trail_of c.args.engine.now) c.args.engine.now c.requires.ready c.requires.pinned i.none r.same r.number
  where
    open c use {args.best.now as old, replace.new.best as new, numbers.invariant as i}

pub returns-clause-least : goal.returns-clause-least
returns-clause-least c =
    let t = task_of c.args.a.now in
    let w = chosen_of old.edges old.names in
    rw i.best
    (none_less t c.args.p c.number_at-number.result w w (trail_of c.args.engine.now) c.args.engine.now c.requires.ready
    c.requires.pinned (λ k h. i.none k (let b = c.numbers-test.false in omega arith)) (λ k h. refl)
    (sym c.number_at-number.ensures.number))
  where
    open c use {args.best.now as old, numbers.invariant as i}

pub returns-then-replace-clause-same : goal.returns-then-replace-clause-same
returns-then-replace-clause-same c =
    let new = c.replace.new.best in
    rw (← c.numbers.invariant.best) (c.if-replace.ensures.yes refl).same

pub returns-clause-same : goal.returns-clause-same
returns-clause-same c =
    let old = c.args.best.now in
    rw c.numbers.invariant.best (λ k h. refl)

pub returns-clause-suited : goal.returns-clause-suited
returns-clause-suited c =
    let i = c.numbers.invariant in
    suited_still (task_of c.args.a.now) c.numbers.leaf (variables_of c.numbers.engine) (variables_of c.keep.new.engine)
    i.suited c.keep.ensures.variables

pub number_at-number-requires : goal.number_at-number-requires
number_at-number-requires c = record {
  best = c.requires.best;
  one = c.requires.pinned.one;
  place = c.requires.place;
}

pub numbers-init : goal.numbers-init
numbers-init c = record {
  trail = refl;
  best = refl;
  none = λ k h. absurd (omega arith);
  suited = c.requires.suited;
  ready = c.requires.ready;
}

pub returns-then-replace-clause-pinned : goal.returns-then-replace-clause-pinned
returns-then-replace-clause-pinned c = (c.if-replace.ensures.yes refl).pinned

pub returns-then-replace-clause-best : goal.returns-then-replace-clause-best
returns-then-replace-clause-best c = c.replace.ensures.best

pub returns-then-replace-clause-suited : goal.returns-then-replace-clause-suited
returns-then-replace-clause-suited c = c.replace.ensures.suited

pub returns-then-replace-clause-ready : goal.returns-then-replace-clause-ready
returns-then-replace-clause-ready c = c.replace.ensures.ready

pub returns-clause-pinned : goal.returns-clause-pinned
returns-clause-pinned c = c.keep.ensures.pinned

pub returns-clause-best : goal.returns-clause-best
returns-clause-best c = rw c.numbers.invariant.best c.requires.best

pub returns-then-replace-clause-longer : goal.returns-then-replace-clause-longer
returns-then-replace-clause-longer c = rw (← c.numbers.invariant.trail) (c.if-replace.ensures.longer refl)

pub returns-clause-longer : goal.returns-clause-longer
returns-clause-longer c = rw (← c.numbers.invariant.trail) c.keep.ensures.longer
