use Rattle.std.proofs.Common.{refl, ◌∙◌}
use Rattle.olap_clauses.specs.Engines.{trail_of, variables_of}
use Rattle.olap_dimsat.proofs.MadeLemmas.{suited_still}
use Rattle.olap_dimsat.proofs.SettleLemmas.{agrees_grown, longer_again, longer_same, say_grown, shaped_grown}
use Rattle.olap_dimsat.{proofs.WitnessLemmas.ready_still, specs.Asking.task_of}
use Rattle.olap_dimsat.proofs.settling.probe.Goals as goal

pub returns-then-not-assume_at-clause-ready : goal.returns-then-not-assume_at-clause-ready
returns-then-not-assume_at-clause-ready c =
    ready_still (task_of c.args.a.now) c.args.engine.now c.assume_at.new.engine c.requires.ready
    (λ v m a. c.assume_at.ensures.admits v a)

pub exists-requires-clause-ready : goal.exists-requires-clause-ready
exists-requires-clause-ready c =
    ready_still (task_of c.args.a.now) c.args.engine.now c.force.new.self c.requires.ready
    (λ v m a. c.force.ensures.admits v (c.assume_at.ensures.admits v a))

pub returns-clause-yes : goal.returns-clause-yes
returns-clause-yes c = λ e.
    let t = task_of c.args.a.now in
    let old = trail_of c.args.engine.now in
    let x = c.exists.ensures in record {
      say = rw x.trail (say_grown t c.args.p c.args.x old (trail_of c.assume_at.new.engine) (trail_of c.force.new.self)
          c.force.ensures.grown (c.if-not-assume_at.ensures.yes refl));
      one = x.one e;
      agrees = λ v r. rw x.trail (x.agrees e v r);
    }

pub returns-clause-no : goal.returns-clause-no
returns-clause-no c = λ e f v one r a q.
    c.exists.ensures.none e f v one r
    (agrees_grown v (trail_of c.assume_at.new.engine) (trail_of c.force.new.self) c.force.ensures.grown
    ((c.if-not-assume_at.ensures.yes refl f v one r).1 (a, q)))

pub returns-clause-longer : goal.returns-clause-longer
returns-clause-longer c =
    longer_same (trail_of c.args.engine.now) (trail_of c.force.new.self) (trail_of c.exists.new.engine)
    (longer_again (trail_of c.args.engine.now) (trail_of c.assume_at.new.engine) (trail_of c.force.new.self)
    c.assume_at.ensures.longer c.force.ensures.longer) c.exists.ensures.trail

pub returns-clause-shaped : goal.returns-clause-shaped
returns-clause-shaped c =
    rw c.exists.ensures.trail
    (shaped_grown (task_of c.args.a.now) (trail_of c.assume_at.new.engine) (trail_of c.force.new.self)
    c.force.ensures.grown c.assume_at.ensures.shaped)

pub assume_at-requires : goal.assume_at-requires
assume_at-requires c = record {
  task = c.requires.suited.task;
  ready = c.requires.ready;
  shaped = c.requires.shaped;
  place = c.requires.place;
  number = c.requires.number;
  variables = c.requires.suited.variables;
}

pub returns-then-not-assume_at-clause-no : goal.returns-then-not-assume_at-clause-no
returns-then-not-assume_at-clause-no c = λ _. c.if-not-assume_at.ensures.no refl

pub returns-then-not-assume_at-clause-longer : goal.returns-then-not-assume_at-clause-longer
returns-then-not-assume_at-clause-longer c = c.assume_at.ensures.longer

pub returns-then-not-assume_at-clause-shaped : goal.returns-then-not-assume_at-clause-shaped
returns-then-not-assume_at-clause-shaped c = c.assume_at.ensures.shaped

pub returns-then-not-assume_at-clause-suited : goal.returns-then-not-assume_at-clause-suited
returns-then-not-assume_at-clause-suited c =
    suited_still (task_of c.args.a.now) c.args.leaf.now (variables_of c.args.engine.now)
    (variables_of c.assume_at.new.engine) c.requires.suited c.assume_at.ensures.variables

pub exists-requires-clause-suited : goal.exists-requires-clause-suited
exists-requires-clause-suited c =
    suited_still (task_of c.args.a.now) c.args.leaf.now (variables_of c.args.engine.now)
    (variables_of c.force.new.self) c.requires.suited (c.force.ensures.variables ∙ c.assume_at.ensures.variables)

pub exists-requires-clause-shaped : goal.exists-requires-clause-shaped
exists-requires-clause-shaped c =
    shaped_grown (task_of c.args.a.now) (trail_of c.assume_at.new.engine) (trail_of c.force.new.self)
    c.force.ensures.grown c.assume_at.ensures.shaped

pub returns-clause-ready : goal.returns-clause-ready
returns-clause-ready c = c.exists.ensures.ready

pub returns-clause-suited : goal.returns-clause-suited
returns-clause-suited c = c.exists.ensures.suited
