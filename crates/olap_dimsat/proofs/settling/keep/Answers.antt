use Rattle.std.proofs.{Common.{inl, inr}, lemmas.Bool.cases_Bool}
use Rattle.olap_clauses.specs.Engines.{trail_of}
use Rattle.olap_frozen.specs.Leaves.{chosen_of}
use Rattle.olap_dimsat.{proofs.SettleLemmas.{has_its_own, kept}, proofs.WitnessLemmas.ready_still, specs.Asking.task_of}
use Rattle.olap_dimsat.proofs.settling.keep.Goals as goal

pub returns-clause-pinned : goal.returns-clause-pinned
returns-clause-pinned c =
    let t = task_of c.args.a.now in
    let w = chosen_of c.args.best.now.edges c.args.best.now.names in
    let old = trail_of c.args.engine.now in
    let n = c.number_at-number.result in
    let own = c.number_at-number.ensures.number in
    elim (cases_Bool c.assume_at.result) [
      | inl y ↦ kept t c.args.p n w old (trail_of c.assume_at.new.engine) c.requires.pinned own
          c.assume_at.ensures.shaped (c.assume_at.ensures.yes y)
      | inr z ↦ absurd (has_its_own t c.args.p n w old c.args.engine.now c.requires.ready c.requires.pinned own
          (c.assume_at.ensures.no z))
    ]

pub returns-clause-ready : goal.returns-clause-ready
returns-clause-ready c = ready_still (task_of c.args.a.now) c.args.engine.now c.assume_at.new.engine c.requires.ready
    (λ v m a. c.assume_at.ensures.admits v a)

pub returns-clause-longer : goal.returns-clause-longer
returns-clause-longer c = c.assume_at.ensures.longer
