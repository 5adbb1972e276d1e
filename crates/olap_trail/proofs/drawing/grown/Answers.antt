-- What leads to c leads on.
use Rattle.std.proofs.Common.{◌∙◌, inl, inr, sym}
use Rattle.olap_bits.specs.Sets.{members}
use Rattle.olap_trail.proofs.{SetLemmas.grown_union, drawing.grown.Goals.{then-x-c, else-x-c}}
use Rattle.olap_trail.proofs.drawing.grown.Goals as goal

pub returns-then-has : goal.returns-then-has
returns-then-has g c =
    grown_union (members c.args.row.now) (members c.args.through.now) (members c.union.result) c.args.x c.args.c
    c.union.ensures (elim c.if-x-c.branch [
      | then-x-c w ↦ inl w.if-x-c.true
      | else-x-c w ↦ inr (sym w.has.ensures ∙ sym w.value-is ∙ c.if-has.true)
    ])
