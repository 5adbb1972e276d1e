-- Nothing stands in the table at first.
use Rattle.std.proofs.Common.{◌∙◌}
use Rattle.olap_legal.proofs.JoiningLemmas.{rows_start}
use Rattle.olap_legal.proofs.joining.table_by_joins.Goals as goal

pub fill-requires-clause-rows : goal.fill-requires-clause-rows
fill-requires-clause-rows c = rows_start c.in_ok-table.ensures.laid c.in_ok-table.ensures.none

pub fill-requires-clause-row : goal.fill-requires-clause-row
fill-requires-clause-row c = c.deref_mut.ensures.len ∙ c.in_ok-row.ensures.len ∙ c.from.ensures
