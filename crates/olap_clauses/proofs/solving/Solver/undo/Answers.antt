-- What is left of a trail is forced as it was.
use Rattle.olap_clauses.proofs.AdmitsLemmas.{admits_cut}
use Rattle.olap_clauses.proofs.solving.Solver.undo.Goals as goal

pub returns-clause-admits : goal.returns-clause-admits
returns-clause-admits c = λ v a. admits_cut c.args.mark c.cut.ensures.steps a
