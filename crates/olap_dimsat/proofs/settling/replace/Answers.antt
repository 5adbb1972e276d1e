use Rattle.std.proofs.Common.{refl}
use Rattle.olap_clauses.specs.Engines.{trail_of, variables_of}
use Rattle.olap_frozen.specs.Leaves.{chosen_of}
use Rattle.olap_dimsat.proofs.{MadeLemmas.suited_still, SettleLemmas.replaced, WitnessLemmas.ready_still}
use Rattle.olap_dimsat.specs.Asking.{task_of}
use Rattle.olap_dimsat.proofs.settling.replace.Goals as goal

pub returns-then-probe-clause-yes : goal.returns-then-probe-clause-yes
returns-then-probe-clause-yes c = λ e.
    let t = task_of c.args.a.now in
    rw c.swap.ensures.x_after
    (replaced t c.args.p c.args.x (chosen_of best.edges best.names) (chosen_of leaf.edges leaf.names)
    (trail_of c.args.engine.now) (trail_of c.probe.new.engine) c.args.engine.now c.requires.ready c.requires.pinned
    c.probe.ensures.shaped (c.if-probe.ensures.yes refl))
  where
    open c use {args.best.now as best, probe.new.leaf.frozen as leaf}

pub returns-clause-ready : goal.returns-clause-ready
returns-clause-ready c = ready_still (task_of c.args.a.now) c.probe.new.engine c.undo.new.self c.probe.ensures.ready
    (λ v m a. c.undo.ensures.admits v a)

pub probe-requires : goal.probe-requires
probe-requires c = record {
  place = c.requires.place;
  number = c.requires.number;
  suited = c.requires.suited;
  ready = c.requires.ready;
  shaped = c.requires.pinned.shaped;
}

pub returns-then-probe-clause-best : goal.returns-then-probe-clause-best
returns-then-probe-clause-best c = rw c.swap.ensures.x_after c.probe.ensures.suited.frozen

pub returns-then-probe-clause-suited : goal.returns-then-probe-clause-suited
returns-then-probe-clause-suited c =
    let s = c.probe.ensures.suited in record {
      task = s.task;
      frozen = rw c.swap.ensures.y_after c.requires.best;
      decided = s.decided;
      room = s.room;
      variables = s.variables;
    }

pub returns-then-probe-clause-ready : goal.returns-then-probe-clause-ready
returns-then-probe-clause-ready c = c.probe.ensures.ready

pub returns-clause-no : goal.returns-clause-no
returns-clause-no c = λ _. c.if-probe.ensures.no refl

pub returns-clause-best : goal.returns-clause-best
returns-clause-best c = c.requires.best

pub returns-clause-suited : goal.returns-clause-suited
returns-clause-suited c =
    suited_still (task_of c.args.a.now) c.probe.new.leaf (variables_of c.probe.new.engine)
    (variables_of c.undo.new.self) c.probe.ensures.suited c.undo.ensures.variables

pub returns-then-probe-clause-longer : goal.returns-then-probe-clause-longer
returns-then-probe-clause-longer c = λ _. c.probe.ensures.longer
