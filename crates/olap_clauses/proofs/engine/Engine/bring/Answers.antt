-- Clauses change places, and what stands doesn't.
use Rattle.olap_clauses.proofs.AdmitsLemmas.{admits_by_others}
use Rattle.olap_clauses.proofs.engine.Engine.bring.Goals as goal

pub returns-in-Second-clause-admits : goal.returns-in-Second-clause-admits
returns-in-Second-clause-admits c = λ v a.
    let p = c.change_places.ensures.clauses v a.0.clauses a.1 in
    (admits_by_others c.change_places.ensures.trail a.0 p.0, p.1, a.2)

pub returns-in-Third-clause-admits : goal.returns-in-Third-clause-admits
returns-in-Third-clause-admits c = λ v a.
    let p = c.change_places-in-Third.ensures.clauses v a.0.clauses a.2 in
    (admits_by_others c.change_places-in-Third.ensures.trail a.0 p.0, a.1, p.1)
