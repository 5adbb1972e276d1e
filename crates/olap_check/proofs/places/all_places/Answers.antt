-- One place after the other.
use Rattle.std.proofs.Common.{◌+◌, subst, sym}
use Rattle.olap_bits.specs.Sets.{members}
use Rattle.olap_check.{proofs.BlockLemmas.{collect_start, collect_more}, specs.Blocks.Collects}
use Rattle.olap_check.proofs.places.all_places.Goals as goal

pub places-init : goal.places-init
places-init c = subst (λ s. Collects 0 (λ k. Unit {0}) s) (sym c.empty-places.ensures) (collect_start (λ k. Unit {0}))

pub places-preserved : goal.places-preserved
places-preserved c =
    let k = c.places.k in
    subst (λ s. Collects (k + 1) (λ j. Unit {0}) s) (sym c.with-places.ensures)
    (collect_more (λ j. Unit {0}) k (members c.places.places) c.places.invariant tt)
