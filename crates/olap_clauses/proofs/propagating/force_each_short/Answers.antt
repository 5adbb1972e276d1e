-- What was forced so far, and what is forced now.
use Rattle.olap_clauses.proofs.AdmitsLemmas.{extends_again}
use Rattle.olap_clauses.proofs.propagating.force_each_short.Goals as goal

pub returns-then-is_some-clause-extends : goal.returns-then-is_some-clause-extends
returns-then-is_some-clause-extends c =
    extends_again c.nodes.invariant c.force_short-found.ensures.extends

pub nodes-preserved : goal.nodes-preserved
nodes-preserved c = extends_again c.nodes.invariant c.force_short-found.ensures.extends
