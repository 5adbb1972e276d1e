use Rattle.std.proofs.Common.{refl, ◌∙◌, arith}
use Rattle.olap_clauses.specs.Engines.{trail_of, variables_of}
use Rattle.olap_dimsat.{proofs.MadeLemmas.suited_still, proofs.SettleLemmas.longer_again, specs.Asking.task_of}
use Rattle.olap_dimsat.proofs.settling.settle_next.Goals as goal

pub keep-requires : goal.keep-requires
keep-requires c = record {
  task = c.requires.suited.task;
  place = c.requires.place;
  ready = c.requires.ready;
  best = c.requires.best;
  pinned = c.requires.pinned;
  variables = c.requires.suited.variables;
}

pub returns-then-p-known : goal.returns-then-p-known
returns-then-p-known c = record {
  pinned = c.keep.ensures.pinned;
  longer = c.keep.ensures.longer;
  same = λ q h. refl;
  least = let b = c.if-p-known.true in c.requires.known c.args.p (omega arith) (omega arith);
  known = λ q f l. c.requires.known q (omega arith) l;
  best = c.requires.best;
  suited = suited_still (task_of c.args.a.now) c.args.leaf.now (variables_of c.args.engine.now)
      (variables_of c.keep.new.engine) c.requires.suited c.keep.ensures.variables;
  ready = c.keep.ensures.ready;
}

pub first_open-next-requires : goal.first_open-next-requires
first_open-next-requires c = record {
  task = c.requires.suited.task;
  ready = c.requires.ready;
  best = c.requires.best;
  pinned = c.requires.pinned;
}

pub settle-requires : goal.settle-requires
settle-requires c =
    let s = c.first_open-next.ensures in record {
      place = c.requires.place;
      suited = suited_still (task_of c.args.a.now) c.args.leaf.now (variables_of c.args.engine.now)
          (variables_of c.first_open-next.new.engine) c.requires.suited s.variables;
      ready = s.ready;
      best = c.requires.best;
      pinned = s.pinned;
    }

pub keep-requires-then-p-next : goal.keep-requires-then-p-next
keep-requires-then-p-next c =
    let s = c.first_open-next.ensures in record {
      task = c.requires.suited.task;
      place = c.requires.place;
      ready = s.ready;
      best = c.requires.best;
      pinned = s.pinned;
      variables = s.variables ∙ c.requires.suited.variables;
    }

pub returns-then-p-next : goal.returns-then-p-next
returns-then-p-next c =
    let s = c.first_open-next.ensures in record {
      pinned = c.keep-then-p-next.ensures.pinned;
      longer = longer_again (trail_of c.args.engine.now) (trail_of c.first_open-next.new.engine)
          (trail_of c.keep-then-p-next.new.engine) s.longer c.keep-then-p-next.ensures.longer;
      same = λ q h. refl;
      least = let b = c.if-p-next.true in s.least c.args.p (omega arith) (omega arith);
      known = λ q f l. s.least q (omega arith) l;
      best = c.requires.best;
      suited = suited_still (task_of c.args.a.now) c.args.leaf.now (variables_of c.args.engine.now)
          (variables_of c.keep-then-p-next.new.engine) c.requires.suited
          (c.keep-then-p-next.ensures.variables ∙ s.variables);
      ready = c.keep-then-p-next.ensures.ready;
    }

pub returns : goal.returns
returns c = record {
  pinned = c.settle.ensures.pinned;
  longer = longer_again (trail_of c.args.engine.now) (trail_of c.first_open-next.new.engine)
      (trail_of c.settle.new.engine) c.first_open-next.ensures.longer c.settle.ensures.longer;
  same = c.settle.ensures.same;
  least = c.settle.ensures.least;
  known = λ q f l. absurd (omega arith);
  best = c.settle.ensures.best;
  suited = c.settle.ensures.suited;
  ready = c.settle.ensures.ready;
}
