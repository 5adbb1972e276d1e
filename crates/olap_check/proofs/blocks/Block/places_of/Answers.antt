-- One place after the other.
use Rattle.std.proofs.Common.{ℕ, get_or, length, arith}
use Rattle.olap_bits.specs.Sets.{members}
use Rattle.olap_check.proofs.BlockLemmas.{collect_start, collect_more, collect_skip, select_collected}
use Rattle.olap_check.{proofs.blocks.Block.places_of.Goals.{then-is_so_at, else-is_so_at}, specs.Seen.IsSo}
use Rattle.olap_base.proofs.GeneralLemmas.{refuted}
use Rattle.olap_check.proofs.blocks.Block.places_of.Goals as goal

pub places-init : goal.places-init
places-init c =
    let b = c.args.self.now in
    let P : ℕ → Type 0 = λ k. IsSo b.instance.now c.args.asked (get_or b.part.now k 0) in
    rw c.empty-truths.ensures (collect_start P)

pub places-preserved : goal.places-preserved
places-preserved c =
    let b = c.args.self.now in
    let k = c.places.k in
    let P : ℕ → Type 0 = λ k. IsSo b.instance.now c.args.asked (get_or b.part.now k 0) in
    let old = members c.places.truths in
    elim c.if-is_so_at.branch [
      | then-is_so_at w ↦
          rw (w.truths-is, w.with-truths.ensures)
          (collect_more P k old c.places.invariant (c.is_so_at.ensures.0 w.if-is_so_at.true))
      | else-is_so_at w ↦
          rw w.truths-is (collect_skip P k old c.places.invariant
          (refuted c.is_so_at.result w.if-is_so_at.false c.is_so_at.ensures))
    ]

pub returns : goal.returns
returns c =
    let b = c.args.self.now in
    select_collected (length b.part.now) c.places.k (members c.places.truths)
    {P = λ k. IsSo b.instance.now c.args.asked (get_or b.part.now k 0)} (omega (arith, c.places-test.false))
    c.places.invariant
