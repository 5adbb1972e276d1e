-- What was forced so far, and what is forced now.
use Rattle.olap_clauses.proofs.AdmitsLemmas.{extends_again}
use Rattle.olap_clauses.proofs.propagating.propagate.Goals as goal

pub returns-then-is_some-clause-extends : goal.returns-then-is_some-clause-extends
returns-then-is_some-clause-extends c =
    extends_again c.steps.invariant c.walk-found.ensures.extends

pub steps-preserved : goal.steps-preserved
steps-preserved c = extends_again c.steps.invariant c.walk-found.ensures.extends
