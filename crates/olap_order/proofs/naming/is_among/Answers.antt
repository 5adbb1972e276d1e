use Rattle.std.proofs.Common.{◌∙◌}
use Rattle.olap_order.proofs.SourceLemmas.{among_numbers}
use Rattle.olap_order.proofs.naming.is_among.Goals as goal

pub returns : goal.returns
returns c = c.contains.ensures.value ∙ among_numbers c.args.categories.now c.args.category.0
