use Rattle.std.proofs.{Common.{◌≡◌, ◌∙◌, below_more, length, map, sym, refl, arith}, lemmas.List.length-map}
use Rattle.olap_records.proofs.SameRow.{field-other, field-same, same-rows}
use Rattle.olap_records.proofs.reading.Rows.is_row.Goals as goal

pub returns-then-ne : goal.returns-then-ne
returns-then-ne c = (
  λ t. absurd (cc t),
  λ same. absurd
      (field-other c.args.self.now.row c.args.fields.now c.fields.i c.field.result.now _ c.fields-test.true
      c.field.ensures (sym c.if-ne.ensures) same),
)

pub fields-preserved : goal.fields-preserved
fields-preserved c =
    below_more _ _ c.fields.invariant
    (field-same c.args.self.now.row c.args.fields.now c.fields.i c.field.result.now _ c.fields-test.true
    c.field.ensures (sym c.if-ne.ensures))

pub returns : goal.returns
returns c =
    let size : length (map (λ f. f.now) c.args.fields.now) ≡ length c.args.fields.now =
    length-map c.args.fields.now (λ f. f.now) in (
      λ t. same-rows c.args.self.now.row (map (λ f. f.now) c.args.fields.now)
          (sym c.len.ensures ∙ (c.if-len-fields.false ∙ sym size)) (λ k l. c.fields.invariant k (omega arith)),
      λ same. refl,
    )
