-- The commands of the code, as the orders of the words that they hold.
use Rattle.std.specs.Prelude.{[], ◌∷◌}
use Rattle.olap_order.specs.Order.{Order}
use Rattle.olap_plans.specs.Commands.{answer_order, generate_order}
use Rattle.olap_plans.specs.Questions.{Question}
use Rattle.olap_plans.specs.declared.words.Command.{Command}
use Rattle.olap_plans.specs.declared.words.Command.TheVariants as code

-- the order of a command
abbrev pub seen : Command → Order Question
seen (code.Answer schema instance store target) =
    answer_order (schema.now ∷ instance.now ∷ store.now ∷ target.now ∷ [])
seen (code.Generate seed size) = generate_order (seed.now ∷ size.now ∷ [])
