-- The row fits where it belongs.
use Rattle.olap_legal.proofs.JoiningLemmas.{row_fits, row_put}
use Rattle.olap_legal.proofs.joining.give_row.Goals as goal

pub put-requires-clause-fits : goal.put-requires-clause-fits
put-requires-clause-fits c =
    row_fits c.requires.rows.laid c.requires.z (c.rise_from.ensures c.if-not-rise_from.false)

pub returns : goal.returns
returns c = λ _.
    let rise = c.rise_from.ensures c.if-not-rise_from.false in
    let put = c.put.ensures in
    row_put c.requires.bounded c.requires.rows rise put.laid put.here put.others
