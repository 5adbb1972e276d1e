-- What is forced adds no decision.
use Rattle.std.proofs.Common.{◌+◌, ◌∙◌}
use Rattle.olap_clauses.specs.Engines.{trail_of}
use Rattle.olap_frozen.specs.Leaves.{chosen_of}
use Rattle.olap_dimsat.proofs.{SettleLemmas.{longer_again, pinned_grown}, WitnessLemmas.ready_still}
use Rattle.olap_dimsat.specs.Asking.{task_of}
use Rattle.olap_dimsat.proofs.branching.pin.Goals as goal

pub returns-then-len-stood-clause-pinned : goal.returns-then-len-stood-clause-pinned
returns-then-len-stood-clause-pinned c =
    pinned_grown (task_of c.args.a.now) (c.args.p + 1) (chosen_of c.args.best.now.edges c.args.best.now.names)
    (trail_of c.keep.new.engine) (trail_of c.force.new.self) c.force.ensures.grown c.keep.ensures.pinned

pub returns-then-len-stood-clause-longer : goal.returns-then-len-stood-clause-longer
returns-then-len-stood-clause-longer c =
    longer_again (trail_of c.args.engine.now) (trail_of c.keep.new.engine) (trail_of c.force.new.self)
    c.keep.ensures.longer c.force.ensures.longer

pub returns-then-len-stood-clause-variables : goal.returns-then-len-stood-clause-variables
returns-then-len-stood-clause-variables c = c.force.ensures.variables ∙ c.keep.ensures.variables

pub returns-then-len-stood-clause-ready : goal.returns-then-len-stood-clause-ready
returns-then-len-stood-clause-ready c = ready_still (task_of c.args.a.now) c.keep.new.engine c.force.new.self
    c.keep.ensures.ready (λ v m a. c.force.ensures.admits v a)
