-- A decision excludes nothing.
use Rattle.std.proofs.Common.{refl}
use Rattle.olap_clauses.{proofs.AdmitsLemmas.admits_decided, specs.declared.trails.Reason.TheVariants.Decision}
use Rattle.olap_clauses.specs.declared.trails.Step.{Step}
use Rattle.olap_clauses.proofs.solving.Solver.decide.Goals as goal

pub returns-clause-admits : goal.returns-clause-admits
returns-clause-admits c = λ v a.
    let s : Step = record { lit = c.args.lit; reason = Decision } in
    admits_decided s c.push.ensures.steps refl a
