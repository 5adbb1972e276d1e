-- The rows that were added up still add up to nothing.
use Rattle.olap_parities.specs.Columns.{column_value}
use Rattle.olap_parities.proofs.parities.reduce.Goals as goal

pub returns-then-not-hand_out_all-clause-none : goal.returns-then-not-hand_out_all-clause-none
returns-then-not-hand_out_all-clause-none c = λ _ v z.
    c.hand_out_all.ensures.none c.if-not-hand_out_all.true v
    (c.eliminate.ensures (column_value v c.args.columns.now) z)

pub returns-then-not-hand_out_all-clause-kept : goal.returns-then-not-hand_out_all-clause-kept
returns-then-not-hand_out_all-clause-kept c = λ v z t.
    c.hand_out_all.ensures.kept v (c.eliminate.ensures (column_value v c.args.columns.now) z) t

pub returns-clause-none : goal.returns-clause-none
returns-clause-none c = λ r v z.
    let w = column_value v c.args.columns.now in
    c.hand_out_all-2.ensures.none r v (c.eliminate-2.ensures w (c.eliminate.ensures w z))

pub returns-clause-kept : goal.returns-clause-kept
returns-clause-kept c = λ v z t.
    let w = column_value v c.args.columns.now in
    let first = c.eliminate.ensures w z in
    c.hand_out_all-2.ensures.kept v (c.eliminate-2.ensures w first) (c.hand_out_all.ensures.kept v first t)
