-- The bottom categories before have their searches.
use Rattle.olap_schema.specs.Schemas.{schema_of}
use Rattle.olap_summ.{proofs.DecisionLemmas.AreMadeBefore, specs.Decisions.asked_by}
use Rattle.olap_summ.proofs.deciding.Decision.new.Given as goal

abbrev pub invariant-categories : goal.invariant-categories
invariant-categories l = AreMadeBefore (schema_of l.schema) (asked_by l.questions) l.b l.searches.items
