-- The bottom categories before have none.
use Rattle.std.proofs.Common.{◌<◌, ℕ}
use Rattle.olap_base.specs.Graph.{IsBottom}
use Rattle.olap_schema.specs.Schemas.{schema_of}
use Rattle.olap_summ.specs.{Answers.IsNowhere, Decisions.asked_by}
use Rattle.olap_summ.proofs.summarizing.first_found.Given as goal

abbrev pub invariant-categories : goal.invariant-categories
invariant-categories l = (d : ℕ) → d < l.b → IsBottom (schema_of l.schema).graph d
    → IsNowhere (schema_of l.schema) (asked_by l.questions) d
