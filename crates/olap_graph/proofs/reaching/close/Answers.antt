use Rattle.std.proofs.Common.{length, arith}
use Rattle.olap_graph.{proofs.RowLemmas.{through_start, through_more, through_end}, specs.Rows.Has}
use Rattle.olap_graph.proofs.reaching.close.Goals as goal

pub through-init : goal.through-init
through-init c = through_start c.args.rows.now c.requires.own

pub through-preserved : goal.through-preserved
through-preserved c =
    let k = c.through.k in
    through_more (Has c.args.rows.now) (length c.args.rows.now) k c.through.rows c.pass.new.rows
    (let l = c.through-test.true in omega arith) c.through.invariant
    c.pass.ensures.count c.pass.ensures.passed

pub returns : goal.returns
returns c =
    through_end c.args.rows.now c.through.rows c.through.k
    (let l = c.through-test.false in let e = c.through.auto.k-end in omega arith)
    c.through.invariant
