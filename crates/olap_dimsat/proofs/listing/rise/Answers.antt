use Rattle.std.proofs.Common.{refl}
use Rattle.olap_clauses.specs.Engines.{trail_of}
use Rattle.olap_frozen.specs.Leaves.{chosen_of}
use Rattle.olap_dimsat.{proofs.FollowingLemmas.risen, proofs.SettleLemmas.longer_again, specs.Asking.task_of}
use Rattle.olap_dimsat.proofs.listing.rise.Goals as goal

pub number_at-number-requires : goal.number_at-number-requires
number_at-number-requires c = record {
  best = c.requires.best;
  one = c.requires.pinned.one;
  place = c.requires.place;
}

pub raise-requires : goal.raise-requires
raise-requires c = record {
  place = c.requires.place;
  number = c.number_at-number.ensures.number;
  in_range = c.most_at-most.ensures.in_range;
  most = c.most_at-most.ensures.most;
  suited = c.requires.suited;
  ready = c.requires.ready;
  best = c.requires.best;
  pinned = c.requires.pinned;
}

pub settle_from-requires : goal.settle_from-requires
settle_from-requires c = record {
  suited = c.raise.ensures.suited;
  ready = c.raise.ensures.ready;
  best = c.raise.ensures.best;
  pinned = c.if-not-raise.ensures.pinned refl;
}

pub returns-then-not-raise : goal.returns-then-not-raise
returns-then-not-raise c = record {
  some = λ e. absurd (cc);
  longer = λ e. absurd (cc);
  none = λ _. c.if-not-raise.ensures.none refl;
  trail = λ _. c.if-not-raise.ensures.trail refl;
  stays = λ _. c.if-not-raise.ensures.stays refl;
  best = c.raise.ensures.best;
  suited = c.raise.ensures.suited;
  ready = c.raise.ensures.ready;
}

pub returns : goal.returns
returns c = record {
  some = λ e.
      risen (task_of c.args.a.now) c.args.p (chosen_of old.edges old.names) (chosen_of mid.edges mid.names)
      (chosen_of new.edges new.names) c.settle_from.ensures.one (c.if-not-raise.ensures.raised refl)
      c.settle_from.ensures.same c.settle_from.ensures.least;
  longer = λ _. longer_again (trail_of c.args.engine.now) (trail_of c.raise.new.engine)
      (trail_of c.settle_from.new.engine) (c.if-not-raise.ensures.longer refl) c.settle_from.ensures.longer;
  none = λ e. absurd (cc);
  trail = λ e. absurd (cc);
  stays = λ e. absurd (cc);
  best = c.settle_from.ensures.best;
  suited = c.settle_from.ensures.suited;
  ready = c.settle_from.ensures.ready;
}
  where
    open c use {args.best.now as old, raise.new.best as mid, settle_from.new.best as new}
