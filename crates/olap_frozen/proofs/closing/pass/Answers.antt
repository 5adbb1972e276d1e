-- One set after another gets what the set has.
use Rattle.std.proofs.Common.{arith}
use Rattle.olap_graph.proofs.RowLemmas.{IsPassing, pass_more, pass_skip, row_at, row_read}
use Rattle.olap_frozen.proofs.{RowLemmas.alone, closing.pass.Goals.{then-has, else-has}}
use Rattle.olap_frozen.proofs.closing.pass.Goals as goal

pub categories-preserved : goal.categories-preserved
categories-preserved c = grind (arith, row_read, row_at, then-has, IsPassing, pass_more, else-has, pass_skip)

pub returns-then-is_subset-clause-passed : goal.returns-then-is_subset-clause-passed
returns-then-is_subset-clause-passed c = grind (arith, row_read, alone)
