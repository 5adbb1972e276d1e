-- A command isn't what is answered by the usage.
use Rattle.olap_order.specs.Families.{IsNoUsage}
use Rattle.olap_verdicts.specs.{Seen.seen, declared.words.Command.Command}
use Rattle.olap_verdicts.specs.declared.words.Command.TheVariants as code

-- the order of a command isn't the usage
pub seen_is_no_usage : (command : Command) → IsNoUsage (seen command)
seen_is_no_usage (code.Verify form schema certificate target sources) bytes e = absurd (cc)
