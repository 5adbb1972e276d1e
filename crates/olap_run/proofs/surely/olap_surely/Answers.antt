use Rattle.olap_outside.proofs.FaultLemmas.{none_rose}
use Rattle.olap_run.proofs.SureLemmas.{not_the_second}
use Rattle.olap_run.proofs.surely.olap_surely.Goals as goal

-- a fault comes only where a count rose, and the counts are 0
pub returns-clause-read : goal.returns-clause-read
returns-clause-read c = λ e. none_rose 0 (c.olap.ensures.read_fault e).risen

pub returns-clause-written : goal.returns-clause-written
returns-clause-written c = λ e. none_rose 0 (c.olap.ensures.write_fault e)

pub returns-clause-usage_only : goal.returns-clause-usage_only
returns-clause-usage_only c = λ none. not_the_second (c.olap.ensures.usage_only none)
    (λ e. none_rose 0 (c.olap.ensures.write_fault e))
