use Rattle.std.proofs.{Common.{◌∙◌, arith}, Math.ListN.length-set}
use Rattle.olap_graph.proofs.RowLemmas.{own_more}
use Rattle.olap_graph.proofs.reaching.isolate.Goals as goal

pub categories-preserved : goal.categories-preserved
categories-preserved c = record {
  count = length-set c.categories.rows c.categories.c c.with.result ∙ c.categories.invariant.count;
  own = own_more c.categories.rows c.categories.c c.with.result c.empty.result c.with.ensures c.empty.ensures
      (omega arith) c.categories.invariant.own;
}
