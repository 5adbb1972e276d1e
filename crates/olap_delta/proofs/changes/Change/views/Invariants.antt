-- The views of the categories so far are changed.
use Rattle.olap_facts.specs.Seen.{fact_of}
use Rattle.olap_delta.{proofs.ChangingLemmas.IsSoFar, specs.Changing.step_of}
use Rattle.olap_delta.proofs.changes.Change.views.Given as goal

abbrev pub invariant-categories : goal.invariant-categories
invariant-categories l = IsSoFar (step_of l.self) (fact_of l.fact) l.k l.fn.table l.table
