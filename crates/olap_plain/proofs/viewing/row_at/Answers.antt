use Rattle.std.proofs.{Common.{rules, get_or, true, false, Option, Some, pos, ap, ◌∙◌, w64}, lemmas.Int.to_z-of_z}
use Rattle.olap_plain.proofs.PlainLemmas.{bound_more, count_step, row_more}
use Rattle.olap_plain.proofs.viewing.row_at.Goals.{then-reaches, else-reaches}
use Rattle.olap_plain.specs.{Plain.{instance_of, as_row, extended}, declared.viewing.PlainFact.PlainFact}
use Rattle.olap_plain.specs.declared.viewing.PlainRow.{PlainRow}
use mir.Val.{SFits}
use Rattle.olap_plain.proofs.viewing.row_at.Goals as goal

abbrev none : PlainFact
none = record { member = 0; value = pos 0 }

pub loop-f-preserved : goal.loop-f-preserved
loop-f-preserved c =
    let v = (get_or facts k none).value in
    let i = instance_of c.args.members.now in
    let more = λ (new : Option PlainRow). row_more i facts k y none row new c.reaches.result in
    elim c.if-reaches.branch [
      | then-reaches w ↦
          let fits : SFits w64 v = search rules in
          let e = w.with_value.ensures.row ∙ ap (extended y (as_row row)) (to_z-of_z w64 v fits) in
          record {
            so_far = more _ true c.loop-f-test.true c.reaches.ensures w.if-reaches.true inv.so_far
                (ap as_row w.row-is ∙ ap Some e);
            bounded = rw w.row-is
                (count_step y row v w.with_value.result k inv.bounded e, w.with_value.ensures.bounded);
          }
      | else-reaches w ↦ record {
        so_far = more _ false c.loop-f-test.true c.reaches.ensures w.if-reaches.false inv.so_far (ap as_row w.row-is);
        bounded = rw w.row-is (bound_more row k inv.bounded);
      }
    ]
  where
    open c use {args.facts.now as facts, loop-f.f-index as k, args.y, loop-f.row, loop-f.invariant as inv}
