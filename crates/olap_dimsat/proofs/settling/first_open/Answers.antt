-- What is forced is so in each frozen dimension that is as the best one before.
use Rattle.olap_clauses.specs.Engines.{trail_of}
use Rattle.olap_frozen.specs.Leaves.{chosen_of}
use Rattle.olap_dimsat.proofs.{SettleLemmas.{none_less_settled, pinned_grown}, WitnessLemmas.ready_still}
use Rattle.olap_dimsat.specs.Asking.{task_of}
use Rattle.olap_dimsat.proofs.settling.first_open.Goals as goal

pub first_unsettled-requires-clause-one : goal.first_unsettled-requires-clause-one
first_unsettled-requires-clause-one c = c.requires.pinned.one

pub returns-clause-ready : goal.returns-clause-ready
returns-clause-ready c = ready_still (task_of c.args.a.now) c.args.engine.now c.force.new.self c.requires.ready
    (λ v m a. c.force.ensures.admits v a)

pub returns-clause-longer : goal.returns-clause-longer
returns-clause-longer c = c.force.ensures.longer

pub returns-clause-variables : goal.returns-clause-variables
returns-clause-variables c = c.force.ensures.variables

pub returns-clause-pinned : goal.returns-clause-pinned
returns-clause-pinned c =
    pinned_grown (task_of c.args.a.now) c.args.from (chosen_of c.args.best.now.edges c.args.best.now.names)
    (trail_of c.args.engine.now) (trail_of c.force.new.self) c.force.ensures.grown c.requires.pinned

pub returns-clause-least : goal.returns-clause-least
returns-clause-least c = λ q h l.
    let t = task_of c.args.a.now in
    let e = c.force.new.self in
    let w = chosen_of c.args.best.now.edges c.args.best.now.names in
    let ready = ready_still t c.args.engine.now e c.requires.ready (λ v m a. c.force.ensures.admits v a) in
    let pinned =
    pinned_grown t c.args.from w (trail_of c.args.engine.now) (trail_of e) c.force.ensures.grown c.requires.pinned in
    none_less_settled t c.args.from q w e ready pinned h
    (rw (← c.trail.ensures) (c.first_unsettled.ensures q h l))
