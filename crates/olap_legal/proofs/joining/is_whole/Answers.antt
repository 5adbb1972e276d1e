-- A row more, and in the end all of them.
use Rattle.std.proofs.Common.{arith, below_more}
use Rattle.olap_legal.proofs.JoiningLemmas.{rows_table}
use Rattle.olap_legal.proofs.joining.is_whole.Goals as goal

pub members-preserved : goal.members-preserved
members-preserved c = below_more _ _ c.members.invariant (c.is_placed.ensures c.if-not-is_placed.false)

pub returns : goal.returns
returns c = λ _.
    rows_table c.requires.bounded c.requires.rows.laid
    (λ x h. c.members.invariant x (omega (arith, h, c.members-test.false, c.members-x-end.ensures.count)))
