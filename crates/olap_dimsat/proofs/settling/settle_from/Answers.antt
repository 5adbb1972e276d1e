use Rattle.std.proofs.{Common.{◌∙◌, inl, inr, arith}, lemmas.Bool.cases_lt}
use Rattle.olap_clauses.specs.Engines.{trail_of}
use Rattle.olap_frozen.specs.Leaves.{chosen_of}
use Rattle.olap_dimsat.{proofs.SettleLemmas.{longer_again, none_less_still}, specs.Asking.task_of}
use Rattle.olap_base.proofs.GeneralLemmas.{below_or_same}
use Rattle.olap_dimsat.proofs.settling.settle_from.Goals as goal

pub settle_next-known-requires-clause-place : goal.settle_next-known-requires-clause-place
settle_next-known-requires-clause-place c = (c.places-end.ensures c.places.p).0 c.places-test.true

pub places-preserved : goal.places-preserved
places-preserved c =
    let t = task_of c.args.a.now in
    let w = chosen_of old.edges old.names in
    let y = chosen_of new.edges new.names in record {
      pinned = s.pinned;
      longer = longer_again (trail_of c.args.engine.now) (trail_of c.places.engine)
          (trail_of c.settle_next-known.new.engine) i.longer s.longer;
      same = λ q h. s.same q (let f = c.places.auto.p in omega arith) ∙ i.same q h;
      least = λ q f h. elim (below_or_same q c.places.p h) [
        | inl l ↦ none_less_still t c.places.p q w y l s.same (i.least q f l)
        | inr e ↦ rw e s.least
      ];
      known = λ q h l. s.known q (omega arith) l;
      best = s.best;
      suited = s.suited;
      ready = s.ready;
    }
  where
    open c use {
      places.invariant as i,
      places.best as old,
      settle_next-known.ensures as s,
      settle_next-known.new.best as new,
    }

pub returns-clause-least : goal.returns-clause-least
returns-clause-least c = λ p f h.
    let l = (c.places-end.ensures p).1 h in
    c.places.invariant.least p f (let b = c.places-test.false in omega arith)

pub returns-then-known-end-clause-one : goal.returns-then-known-end-clause-one
returns-then-known-end-clause-one c = c.places.invariant.pinned.one

pub returns-then-known-end-clause-least : goal.returns-then-known-end-clause-least
returns-then-known-end-clause-least c = λ p f h.
    let l = (c.places-end.ensures p).1 h in
    let b = c.if-known-end.true in
    elim (cases_lt p c.places.p) [
      | inl s ↦ c.places.invariant.least p f s
      | inr s ↦ c.places.invariant.known p s (omega arith)
    ]

pub returns-then-known-end-clause-longer : goal.returns-then-known-end-clause-longer
returns-then-known-end-clause-longer c = c.places.invariant.longer

pub returns-clause-longer : goal.returns-clause-longer
returns-clause-longer c = c.places.invariant.longer
