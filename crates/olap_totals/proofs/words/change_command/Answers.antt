use Rattle.olap_delta.specs.Changing.{step_named}
use Rattle.olap_totals.{proofs.WordLemmas.by_four_places, specs.Seen.under, specs.Under.change_under}
use Rattle.olap_totals.proofs.words.change_command.Goals as goal

pub returns-in-len4 : goal.returns-in-len4
returns-in-len4 c = by_four_places (λ p q r t. under p (λ s. change_under (step_named c.args.change) s q r t))
    c.args.words.now
    c.schema-item.result c.instance-item.result c.store-item.result c.facts-item.result
    c.as_str.result.now c.as_str-in-len4.result.now c.as_str-in-len4-2.result.now c.as_str-in-len4-3.result.now
    c.in-len4.len_at_least c.in-len4.len_below
    c.schema-item.is c.instance-item.is c.store-item.is c.facts-item.is
    c.as_str.ensures.value c.as_str-in-len4.ensures.value
    c.as_str-in-len4-2.ensures.value c.as_str-in-len4-3.ensures.value
