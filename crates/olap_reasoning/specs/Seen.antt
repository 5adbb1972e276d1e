-- The commands of the code, as the orders of the words that they hold.
--     question_of    what is asked of a target and its sources
--     seen_under     the order of what is asked of a schema
--     under          a schema, and what is left under it
--     seen           the order of a command
use Rattle.std.specs.Prelude.{ℕ, List, codes}
use Rattle.olap_ast.specs.Schema.{Schema}
use Rattle.olap_schema_text.specs.Printing.{schema_text}
use Rattle.olap_order.specs.Order.{Order, Done, Told, and_then}
use Rattle.olap_order.specs.Steps.{schema_file}
use Rattle.olap_order.specs.Words.{texts}
use Rattle.olap_order.specs.declared.status.Status.TheVariants.{Yes}
use Rattle.olap_reasoning.specs.Under.{category_under, implies_under, sources_under}
use Rattle.olap_reasoning.specs.Questions.{Question, ByAudit, ByFrozen, ByNeeds, BySatisfiable, ByShapes, BySummarizable, ByProof}
use Rattle.olap_reasoning.specs.declared.words.Asked.{Asked}
use Rattle.olap_reasoning.specs.declared.words.Asked.TheVariants as code
use Rattle.olap_reasoning.specs.declared.words.Command.{Command}
use Rattle.olap_reasoning.specs.declared.words.Wanted.{Wanted}
use Rattle.olap_reasoning.specs.declared.words.Wanted.TheVariants as wanted

-- what is asked of a target and its sources
abbrev pub question_of : Wanted → Schema → ℕ → List ℕ → Question
question_of wanted.Answer = BySummarizable
question_of (wanted.Certificate form) = ByProof form

-- the order of what is asked of a schema
abbrev pub seen_under : Schema → Asked → Order Question
seen_under s code.Format = Told Yes (schema_text s)
seen_under s (code.Satisfiable category) = category_under BySatisfiable s category.now
seen_under s (code.Implies root formula) = implies_under s root.now formula.now
seen_under s (code.Summarizable what target sources) =
    sources_under (question_of what) s target.now (texts sources.now)
seen_under s (code.Needs target sources) = sources_under ByNeeds s target.now (texts sources.now)
seen_under s (code.Frozen category) = category_under ByFrozen s category.now
seen_under s (code.Shapes category) = category_under ByShapes s category.now
seen_under s code.Audit = Done (ByAudit s)

-- a schema, and what is left under it
abbrev pub under : List ℕ → (Schema → Order Question) → Order Question
under schema next = and_then (schema_file (codes "schema") schema) next

-- the order of a command
abbrev pub seen : Command → Order Question
seen command = and_then (schema_file (codes "schema") command.schema.now) (λ s. seen_under s command.asked)
