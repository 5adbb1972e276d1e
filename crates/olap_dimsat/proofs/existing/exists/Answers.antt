use Rattle.olap_clauses.specs.Engines.{trail_of}
use Rattle.olap_dimsat.{proofs.WitnessLemmas.{ready_still, same_agrees, taken_agrees}, specs.Asking.task_of}
use Rattle.olap_dimsat.proofs.existing.exists.Goals as goal

pub returns-clause-one : goal.returns-clause-one
returns-clause-one c = λ e. (c.exists.ensures.found e).1.one

pub returns-clause-agrees : goal.returns-clause-agrees
returns-clause-agrees c = λ e v r.
    let t = c.exists.ensures.found e in
    taken_agrees (task_of c.args.a.now) c.exists.new.state.frozen.edges c.exists.new.state.frozen.names v
    (trail_of c.args.engine.now) t.0 t.1 c.requires.shaped r

pub returns-clause-ready : goal.returns-clause-ready
returns-clause-ready c = ready_still (task_of c.args.a.now) c.args.engine.now c.exists.new.self c.requires.ready
    (λ v m a. c.exists.ensures.admits v m a)

pub returns-clause-none : goal.returns-clause-none
returns-clause-none c = λ e f v one r a.
    let t = task_of c.args.a.now in
    let steps = trail_of c.args.engine.now in
    let w = c.requires.ready f one in
    c.exists.ensures.nothing e w.0 (f, one, w.1) w.2 (same_agrees t f v w.0 steps c.requires.shaped r w.1 a)
