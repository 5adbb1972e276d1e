-- A command isn't what is answered by the usage.
use Rattle.olap_order.specs.Families.{IsNoUsage}
use Rattle.olap_reasoning.specs.{Seen.seen, declared.words.Command.Command}

-- the order of a command isn't the usage
pub seen_is_no_usage : (command : Command) → IsNoUsage (seen command)
seen_is_no_usage command bytes e = absurd (cc)
