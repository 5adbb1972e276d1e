-- A row that adds up to nothing nowhere.
use Rattle.std.proofs.lemmas.List.Elements.{All-get_or}
use Rattle.olap_parities.specs.{Columns.column_value, Rows.IsZero}
use Rattle.olap_parities.proofs.parities.hand_out_all.Goals as goal

pub returns-then-not-hand_out-clause-none : goal.returns-then-not-hand_out-clause-none
returns-then-not-hand_out-clause-none c = λ _ v z.
    c.hand_out.ensures.none c.if-not-hand_out.true v
    (All-get_or (IsZero (column_value v c.args.columns.now)) c.args.rows.now c.rows.k _ c.rows-test.true z)
