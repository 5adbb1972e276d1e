-- The least is found by one search.
use Rattle.std.proofs.Common.{refl}
use Rattle.olap_clauses.specs.Engines.{trail_of, variables_of}
use Rattle.olap_dimsat.proofs.{MadeLemmas.{suited_still, undone}, WitnessLemmas.ready_still}
use Rattle.olap_dimsat.specs.Asking.{task_of}
use Rattle.olap_dimsat.proofs.listing.first.Goals as goal

pub returns-then-found-clause-some : goal.returns-then-found-clause-some
returns-then-found-clause-some c = (refl, c.least-found.ensures.some c.if-found.true)

pub returns-then-found-clause-empty : goal.returns-then-found-clause-empty
returns-then-found-clause-empty c =
    undone c.undo.new.self (trail_of c.least-found.new.engine) c.undo.ensures.trail

pub returns-then-found-clause-best : goal.returns-then-found-clause-best
returns-then-found-clause-best c = c.least-found.ensures.best

pub returns-then-found-clause-suited : goal.returns-then-found-clause-suited
returns-then-found-clause-suited c =
    suited_still (task_of c.args.a.now) c.least-found.new.leaf (variables_of c.least-found.new.engine)
    (variables_of c.undo.new.self) c.least-found.ensures.suited c.undo.ensures.variables

pub returns-then-found-clause-ready : goal.returns-then-found-clause-ready
returns-then-found-clause-ready c = ready_still (task_of c.args.a.now) c.least-found.new.engine c.undo.new.self
    c.least-found.ensures.ready (λ v m a. c.undo.ensures.admits v a)

pub returns-else-found-clause-none : goal.returns-else-found-clause-none
returns-else-found-clause-none c = λ e f one. c.least-found.ensures.none c.if-found.false f one

pub returns-else-found-clause-empty : goal.returns-else-found-clause-empty
returns-else-found-clause-empty c =
    undone c.undo.new.self (trail_of c.least-found.new.engine) c.undo.ensures.trail

pub returns-else-found-clause-best : goal.returns-else-found-clause-best
returns-else-found-clause-best c = c.least-found.ensures.best

pub returns-else-found-clause-suited : goal.returns-else-found-clause-suited
returns-else-found-clause-suited c =
    suited_still (task_of c.args.a.now) c.least-found.new.leaf (variables_of c.least-found.new.engine)
    (variables_of c.undo.new.self) c.least-found.ensures.suited c.undo.ensures.variables

pub returns-else-found-clause-ready : goal.returns-else-found-clause-ready
returns-else-found-clause-ready c = ready_still (task_of c.args.a.now) c.least-found.new.engine c.undo.new.self
    c.least-found.ensures.ready (λ v m a. c.undo.ensures.admits v a)
