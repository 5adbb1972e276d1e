-- A command isn't what is answered by the usage.
use Rattle.std.proofs.Common.{ℕ, List, Option, None, Some}
use Rattle.olap_order.specs.{Families.IsNoUsage, Order.{Done, and_then}, Steps.number_word}
use Rattle.olap_plans.specs.{Numbers.{number_of, size_of}, Questions.ByGenerated, Seen.seen}
use Rattle.olap_plans.specs.declared.words.Command.{Command}
use Rattle.olap_plans.specs.declared.words.Command.TheVariants as code

-- the order of a seed and a size isn't the usage
generated_is_no_usage : (seed size : List ℕ) (q n : Option ℕ) → IsNoUsage
    (and_then (number_word (λ w. q) 2 seed) (λ seed. and_then (number_word (λ w. n) 3 size) (λ size.
    Done (ByGenerated seed size))))
generated_is_no_usage seed size None n bytes e = absurd (cc)
generated_is_no_usage seed size (Some q) None bytes e = absurd (cc)
generated_is_no_usage seed size (Some q) (Some n) bytes e = absurd (cc)

-- the order of a command isn't the usage
pub seen_is_no_usage : (command : Command) → IsNoUsage (seen command)
seen_is_no_usage (code.Answer schema instance store target) bytes e = absurd (cc)
seen_is_no_usage (code.Generate seed size) bytes e =
    generated_is_no_usage seed.now size.now (number_of seed.now) (size_of size.now) bytes e
