-- The commands of the code, as the orders of the words that they hold.
--     seen_under    the order of what is asked under a schema
--     seen          the order of a command
--     under         a schema, and what is left under it
--     store_by      the order of `store`, by its words one by one
use Rattle.std.specs.Prelude.{ℕ, Bool, List, ◌∷◌, ◌&&◌, length, nat_le, nat_lt, codes, if◌then◌else◌, Option, None, Some}
use Rattle.olap_base.specs.Limits.{most_views}
use Rattle.olap_ast.specs.Schema.{Schema}
use Rattle.olap_order.specs.Order.{Order, and_then}
use Rattle.olap_order.specs.Steps.{schema_file}
use Rattle.olap_order.specs.Words.{texts}
use Rattle.olap_delta.specs.Changing.{step_named}
use Rattle.olap_totals.specs.Under.{breaks_under, change_under, check_under, rollup_under, store_under}
use Rattle.olap_totals.specs.Questions.{Question}
use Rattle.olap_totals.specs.declared.words.Asked.{Asked}
use Rattle.olap_totals.specs.declared.words.Asked.TheVariants as code
use Rattle.olap_totals.specs.declared.words.Command.{Command}

-- the order of what is asked under a schema
abbrev pub seen_under : Schema → Asked → Order Question
seen_under s (code.Rollup instance facts category) = rollup_under s instance.now facts.now category.now
seen_under s (code.Check instance) = check_under s instance.now
seen_under s (code.Store instance facts categories) = store_under s instance.now facts.now (texts categories.now)
seen_under s (code.Breaks instance target sources) =
    breaks_under s instance.now target.now (texts sources.now)
seen_under s (code.Change change instance store facts) =
    change_under (step_named change) s instance.now store.now facts.now

-- the order of a command
abbrev pub seen : Command → Order Question
seen command = and_then (schema_file (codes "schema") command.schema.now) (λ s. seen_under s command.asked)

-- a schema, and what is left under it
abbrev pub under : List ℕ → (Schema → Order Question) → Order Question
under schema next = and_then (schema_file (codes "schema") schema) next

-- one category or more, and no more than there may be views
abbrev pub is_few : List (List ℕ) → Bool
is_few categories = nat_lt 0 (length categories) && nat_le (length categories) most_views

-- by a schema, an instance, facts and a few categories
abbrev pub store_by : List (List ℕ) → Option (Order Question)
store_by (schema ∷ instance ∷ facts ∷ categories) =
    if is_few categories then Some (under schema (λ s. store_under s instance facts categories)) else None
store_by words = None
