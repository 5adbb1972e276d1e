-- What is forced is true of each valuation that is admitted and agreed before.
use Rattle.olap_clauses.proofs.AdmitsLemmas.{agrees_grown, extends_again}
use Rattle.olap_clauses.proofs.solving.Solver.force.Goals as goal

pub returns-then-is_none-clause-follows : goal.returns-then-is_none-clause-follows
returns-then-is_none-clause-follows c = λ v a h.
    let x = extends_again c.force_each_short.ensures.extends c.propagate-broken.ensures.extends in
    agrees_grown v x.steps (x.kept v a).forced h

pub returns-then-is_none-clause-admits : goal.returns-then-is_none-clause-admits
returns-then-is_none-clause-admits c = λ v a.
    (extends_again c.force_each_short.ensures.extends c.propagate-broken.ensures.extends).kept v a

pub returns-else-is_none-clause-follows : goal.returns-else-is_none-clause-follows
returns-else-is_none-clause-follows c = λ v a h.
    let x = c.force_each_short.ensures.extends in agrees_grown v x.steps (x.kept v a).forced h

pub returns-then-is_none-clause-grown : goal.returns-then-is_none-clause-grown
returns-then-is_none-clause-grown c =
    (extends_again c.force_each_short.ensures.extends c.propagate-broken.ensures.extends).steps
