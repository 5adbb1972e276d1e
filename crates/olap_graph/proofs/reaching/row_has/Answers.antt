use Rattle.std.proofs.Common.{ap, ◌∙◌, arith}
use Rattle.olap_graph.{proofs.RowLemmas.row_read, specs.Rows.row}
use Rattle.std.specs.FinSet as set
use Rattle.olap_graph.proofs.reaching.row_has.Goals as goal

pub returns : goal.returns
returns c =
    c.has.ensures
    ∙ ap (λ s. set.contains s c.args.d)
    (row_read c.args.rows.now at c.index-rows-from.result (omega arith) c.index-rows-from.is)
    ∙ ap (λ n. set.contains (row c.args.rows.now n) c.args.d) e
  where
    open c use {from.result as at, from.ensures as e}
