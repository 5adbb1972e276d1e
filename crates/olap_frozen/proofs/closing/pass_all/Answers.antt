-- One category after another is passed through.
use Rattle.std.proofs.Common.{arith}
use Rattle.olap_graph.proofs.RowLemmas.{through_start, through_more, through_end}
use Rattle.olap_frozen.proofs.closing.pass_all.Goals as goal

pub through-init : goal.through-init
through-init c = through_start c.args.rows.now c.requires.own

pub through-preserved : goal.through-preserved
through-preserved c = search through_more

pub returns : goal.returns
returns c =
    through_end c.args.rows.now c.through.rows c.through.k
    (let l = c.through-test.false in let e = c.through.auto.k-end in omega arith)
    c.through.invariant
