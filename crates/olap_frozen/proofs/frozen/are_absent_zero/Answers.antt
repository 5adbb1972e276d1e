use Rattle.std.{proofs.Common.{◌≡◌, ◌+◌, true, false, inl, inr, ap, sym, ◌∙◌, arith}, specs.Prelude.slice_index}
use Rattle.olap_graph.specs.Rows.{row}
use Rattle.olap_frozen.proofs.SoundLemmas.{present_is}
use Rattle.olap_frozen.proofs.frozen.are_absent_zero.Goals.{else-not-row_has-via-then-not-row_has+else-names-from-ne0, else-not-row_has-via-else-not-row_has}
use Rattle.olap_base.proofs.GeneralLemmas.{below_or_same}
use Rattle.std.specs.FinSet as set
use Rattle.olap_frozen.proofs.frozen.are_absent_zero.Goals as goal

pub returns-then-names-from-ne0 : goal.returns-then-names-from-ne0
returns-then-names-from-ne0 c = grind (arith, present_is)

pub categories-preserved : goal.categories-preserved
categories-preserved c = λ x h p. elim (below_or_same x c.categories.c h) [
  | inl l ↦ c.categories.invariant x l p
  | inr q ↦ elim c.else-not-row_has.branch [
    | else-not-row_has-via-then-not-row_has+else-names-from-ne0 w ↦
        ap (slice_index c.args.names.now) (q ∙ sym w.from.ensures) ∙ w.if-names-from-ne0.false
    | else-not-row_has-via-else-not-row_has w ↦
        let is = present_is c.args.graph.now c.args.root.0 c.args.edges.now c.args.rows.now
        c.categories-c-end.ensures.hierarchy
        c.requires.root c.requires.rows c.requires.sound x in
        absurd (let z : false ≡ true = sym p ∙ sym is ∙ ap (set.contains (row c.args.rows.now c.args.root.0)) q
        ∙ sym c.row_has.ensures ∙ w.if-not-row_has.false in cc)
  ]
]
