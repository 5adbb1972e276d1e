-- There are no ones, or some.
use Rattle.std.proofs.Common.{sym}
use Rattle.olap_cube.proofs.SumLemmas.{no_ones, some_ones}
use Rattle.olap_cube_summ.proofs.printing.sum_of.Goals as goal

pub returns-then-ways-eq0 : goal.returns-then-ways-eq0
returns-then-ways-eq0 c = λ row. sym (no_ones row c.args.ways c.if-ways-eq0.true)

pub returns : goal.returns
returns c = λ row. sym (some_ones row c.args.ways c.if-ways-eq0.false)
