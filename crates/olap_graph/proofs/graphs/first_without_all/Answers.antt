use Rattle.std.proofs.Common.{◌∙◌, sym, arith}
use Rattle.olap_graph.proofs.RowLemmas.{has_so_far}
use Rattle.olap_graph.proofs.graphs.first_without_all.Goals as goal

pub loop-c-preserved : goal.loop-c-preserved
loop-c-preserved c =
    has_so_far c.args.rows.now c.loop-c.c 0 c.index-rows-c.result (let l = c.loop-c-test.true in omega arith)
    c.index-rows-c.is
    (sym c.has.ensures ∙ c.if-not-has.false) c.loop-c.invariant
