-- One category more is seen.
use Rattle.std.proofs.Common.{◌≡◌, ℕ, ◌↔◌, subst, arith}
use Rattle.olap_bits.specs.Sets.{members}
use Rattle.olap_proof.{proofs.TouchingLemmas.{touched_from_first, touched_more}, specs.Seen.LeadsHere}
use Rattle.olap_proof.specs.Walking.{IsIn, TouchedFrom}
use Rattle.olap_proof.proofs.knowing.touch_ways.Goals as goal

pub categories-init : goal.categories-init
categories-init c = touched_from_first (LeadsHere c.args.place.now.ways) (members c.args.set.now)

pub categories-preserved : goal.categories-preserved
categories-preserved c =
    touched_more (LeadsHere c.args.place.now.ways) c.categories.c (members c.args.set.now) (members c.categories.set)
    (members c.touch_from.new.set) (members c.ways_from.result) c.categories.invariant c.ways_from.ensures
    c.touch_from.ensures

pub returns : goal.returns
returns c =
    let end : c.categories.c ≡ c.args.count = omega (arith, c.categories.auto.c-end, c.categories-test.false) in
    subst (λ n. (x : ℕ) → IsIn (members c.categories.set) x
    ↔ TouchedFrom (members c.args.set.now) (LeadsHere c.args.place.now.ways) n x) end c.categories.invariant
